-- Each run has exactly one end, and the budget of instructions bounds it.
use Rattle.std.proofs.Common.{◌≡◌, ◌≢◌, ℕ, zero, suc, ◌+◌, ◌*◌, ◌<◌, ◌≤◌, inl, inr, Bool, true, false, ◌==◌, cond, List, [], ◌∷◌, length, refl, sym, ◌∙◌, ap, arith, mul-le-mul_left}
use Rattle.std.proofs.lemmas.Bool.{eqb-false, and_from, and_left, and_right, or_left, or_right, cases_Bool, not_from_true, not_from_false}
use Rattle.wb_word.specs.Encoding.{addr_at}
use Rattle.wb_rom.specs.declared.images.Image.{Image}
use Rattle.wb_port.specs.declared.accesses.Access.{Access}
use Rattle.wb_port.specs.declared.accesses.Access.TheVariants as access
use Rattle.wb_port.specs.declared.chips.Chip.{Chip}
use Rattle.wb_port.specs.declared.runs.Run.{Run}
use Rattle.wb_port.specs.declared.runs.Run.TheVariants.{Answered, Overrun, Breach}
use Rattle.wb_port.specs.Port.{rqm, accessed, after_read, after_write}
use Rattle.wb_port.specs.Wait.{raises_request}
use Rattle.wb_port.specs.Monitor.{place, word_at, is_breach, is_leaving, observed, stepped}
use Rattle.wb_port.specs.Run.{Moment, Turn, Gives, Steps, Ends, give, go, is_waiting, turn, turn_at, goes_on, turns, executed, instructions}
use Rattle.wb_port.specs.Talk.{transfers}
use Rattle.wb_port.proofs.Single.{next_keeps}
use Rattle.wb_port.proofs.Turning.{stepped_count}
use Rattle.wb_port.proofs.Measure.{IsSound, linger, open_of, budget, lighter, stepped_machine}

-- what a turn is, with what led to it
pub data View (image : Image) (k : ℕ) (held : Bool) (m : Moment) : Turn → Type 0 where
  gives : (a : Access) (rest : List Access) → m.left ≡ a ∷ rest → rqm m.chip.machine ≡ true → View image k held m (Gives a (give image a rest m))
  steps : m.chip.monitor.count ≢ k → is_breach image m.chip ≡ false → is_waiting image m.chip ≡ false → View image k held m (Steps (record m { chip = stepped image m.chip }))
  ends : (e : Run) → View image k held m (Ends e)

view-go : (image : Image) (k : ℕ) (held : Bool) (m : Moment) → is_waiting image m.chip ≡ false → View image k held m (go image k m)
unfolding go
view-go image k held m busy = by_count (m.chip.monitor.count == k) refl
  where
    by_breach : (b : Bool) → m.chip.monitor.count ≢ k → is_breach image m.chip ≡ b → View image k held m (cond b (Ends (Breach (addr_at (place m.chip)))) (Steps (record m { chip = stepped image m.chip })))
    by_breach true other e = ends _
    by_breach false other e = steps other e busy

    by_count : (b : Bool) → (m.chip.monitor.count == k) ≡ b → View image k held m (cond b (Ends Overrun) (cond (is_breach image m.chip) (Ends (Breach (addr_at (place m.chip)))) (Steps (record m { chip = stepped image m.chip }))))
    by_count true e = ends _
    by_count false e = by_breach (is_breach image m.chip) (eqb-false _ _ e) refl

pub view : (image : Image) (k : ℕ) (held : Bool) (m : Moment) → View image k held m (turn image k held m)
unfolding turn
view image k held m = by_left m.left refl
  where
    by_request : (a : Access) (rest : List Access) (r : Bool) → m.left ≡ a ∷ rest → rqm m.chip.machine ≡ r → View image k held m (cond r (Gives a (give image a rest m)) (go image k m))
    by_request a rest true left on = gives a rest left on
    by_request a rest false left off = view-go image k held m (and_left _ _ off)

    by_wait : (w : Bool) → is_waiting image m.chip ≡ w → View image k held m (cond w (Ends (Answered m.said)) (go image k m))
    by_wait true e = ends _
    by_wait false e = view-go image k held m e

    by_mode : (h : Bool) → View image k held m (turn_at image k h [] m)
    by_mode false = ends _
    by_mode true = by_wait (is_waiting image m.chip) refl

    by_left : (left : List Access) → m.left ≡ left → View image k held m (turn_at image k held left m)
    by_left [] e = by_mode held
    by_left (a ∷ rest) e = by_request a rest (rqm m.chip.machine) e refl

-- what holds at each moment of a run: a standing request is asked, and the count is at most k
pub record IsOngoing (k : ℕ) (m : Moment) : Type 0 where
  pub sound : IsSound m.chip
  pub small : m.chip.monitor.count ≤ k

asked_stays : (image : Image) (c : Chip) → rqm c.machine ≡ true → c.monitor.asked ≡ true → (stepped image c).monitor.asked ≡ true
unfolding stepped observed is_leaving
asked_stays image c on asked = or_right _ _ (and_from _ _ asked (not_from_false _ (and_right _ _ (not_from_true _ on))))

asked_raised : (image : Image) (c : Chip) → raises_request (word_at image c) ≡ true → (stepped image c).monitor.asked ≡ true
unfolding stepped observed
asked_raised image c raises = or_left _ _ raises

pub stepped_sound : (image : Image) (c : Chip) → IsSound c → IsSound (stepped image c)
stepped_sound image c sound on =
    elim (cases_Bool (raises_request (word_at image c))) [
      | inl raises ↦ asked_raised image c raises
      | inr quiet ↦
          let was : rqm c.machine ≡ true = sym (ap rqm (stepped_machine image c) ∙ next_keeps image c.machine quiet) ∙ on in
          asked_stays image c was (sound was)
    ]

given_linger : (image : Image) (a : Access) (c : Chip) → linger image (record c { machine = accessed a c.machine }) ≡ linger image c
unfolding linger after_read after_write
given_linger image access.Status c = refl
given_linger image access.Read c = refl
given_linger image (access.Write byte) c = refl

open-most : (b : Bool) → open_of b ≤ 1
open-most true = omega arith
open-most false = omega arith

data_budget : (k t t' o o' n l l' : ℕ) → t ≡ suc t' → o' ≤ 1 → l' ≡ l → (k + 7) * (t' + o') + n + l' ≤ (k + 7) * (t + o) + n + l
data_budget k t t' o o' n l l' te most le =
    let few : t' + o' ≤ t + o = omega arith in
    let less : (k + 7) * (t' + o') ≤ (k + 7) * (t + o) = mul-le-mul_left (k + 7) few in
    omega arith

status_budget : (k t t' o n l : ℕ) → t ≡ t' → (k + 7) * (t' + o) + n + l ≤ (k + 7) * (t + o) + n + l
status_budget k t t' o n l e = rw e (omega arith)

-- giving an access leaves no more instructions to follow
pub given_budget : (image : Image) (k : ℕ) (m : Moment) (a : Access) (rest : List Access) → m.left ≡ a ∷ rest → budget image k (give image a rest m) ≤ budget image k m
unfolding budget
given_budget image k m access.Status rest left = let e : transfers m.left ≡ transfers rest = ap transfers left in status_budget k _ _ _ _ _ e
given_budget image k m access.Read rest left =
    data_budget k _ _ _ _ _ _ _ (ap transfers left) (open-most _) (given_linger image access.Read m.chip)
given_budget image k m (access.Write byte) rest left =
    data_budget k _ _ _ _ _ _ _ (ap transfers left) (open-most _) (given_linger image (access.Write byte) m.chip)

-- an instruction leaves fewer to follow
pub stepped_budget : (image : Image) (k : ℕ) (m : Moment) → IsOngoing k m → m.chip.monitor.count ≢ k → is_breach image m.chip ≡ false → is_waiting image m.chip ≡ false → budget image k (record m { chip = stepped image m.chip }) < budget image k m
unfolding budget
stepped_budget image k m fit other fine busy =
    let small : m.chip.monitor.count < k = let h = fit.small in omega arith in
    lighter image k (transfers m.left) m.chip fit.sound small fine busy

pub stepped_ongoing : (image : Image) (k : ℕ) (m : Moment) → IsOngoing k m → m.chip.monitor.count ≢ k → IsOngoing k (record m { chip = stepped image m.chip })
stepped_ongoing image k m fit other =
    record {
      sound = stepped_sound image m.chip fit.sound;
      small = let h = fit.small in let n = stepped_count image m.chip in omega arith;
    }

pub given_ongoing : (image : Image) (k : ℕ) (m : Moment) (a : Access) (rest : List Access) → IsOngoing k m → rqm m.chip.machine ≡ true → IsOngoing k (give image a rest m)
given_ongoing image k m a rest fit on = record { sound = λ r. fit.sound on; small = fit.small }

-- the end of a run stays
pub stays : (image : Image) (k : ℕ) (held : Bool) (j : ℕ) (m : Moment) (e : Run) → turn image k held m ≡ Ends e → turns image k held j m ≡ m
stays image k held zero m e h = refl
stays image k held (suc j) m e h =
    ap (λ (t : Turn). turns image k held j (goes_on t m)) h ∙ stays image k held j m e h

ends_same : (e f : Run) → Ends e ≡ Ends f → e ≡ f
ends_same e f h = cc

-- a run has one end at most
pub one_end : (image : Image) (k : ℕ) (held : Bool) (i j : ℕ) (m : Moment) (e f : Run) → turn image k held (turns image k held i m) ≡ Ends e → turn image k held (turns image k held j m) ≡ Ends f → e ≡ f
one_end image k held zero j m e f h g =
    ends_same e f (sym h ∙ ap (turn image k held) (sym (stays image k held j m e h)) ∙ g)
one_end image k held (suc i) zero m e f h g =
    ends_same e f (sym h ∙ ap (turn image k held) (stays image k held (suc i) m f g) ∙ g)
one_end image k held (suc i) (suc j) m e f h g =
    one_end image k held i j (goes_on (turn image k held m) m) e f h g

-- a run comes to an end, by so many turns and so many instructions
pub record IsEnding (image : Image) (k : ℕ) (held : Bool) (m : Moment) : Type 0 where
  pub last : ℕ
  pub end : Run
  pub ends : turn image k held (turns image k held last m) ≡ Ends end
  pub few : instructions image k held last m ≤ budget image k m

-- what is left of a run: instructions, and accesses
abbrev pub rest_of : Image → ℕ → Moment → ℕ
rest_of image k m = budget image k m + length m.left

later : (image : Image) (k : ℕ) (held : Bool) (m x : Moment) → goes_on (turn image k held m) m ≡ x → executed (turn image k held m) + budget image k x ≤ budget image k m → IsEnding image k held x → IsEnding image k held m
later image k held m x e cost r =
    record {
      last = suc r.last;
      end = r.end;
      ends = ap (λ (y : Moment). turn image k held (turns image k held r.last y)) e ∙ r.ends;
      few =
          let f : instructions image k held r.last (goes_on (turn image k held m) m) ≡ instructions image k held r.last x =
          ap (λ (y : Moment). instructions image k held r.last y) e in
          let g : instructions image k held r.last x ≤ budget image k x = r.few in
          omega arith;
    }

pub ending : (image : Image) (k : ℕ) (held : Bool) (n : ℕ) (m : Moment) → IsOngoing k m → rest_of image k m < n → IsEnding image k held m
ending image k held zero m fit less = absurd (omega arith)
ending image k held (suc n) m fit less =
    by (turn image k held m) (view image k held m) refl (λ x f l. ending image k held n x f l)
  where
    by : (t : Turn) → View image k held m t → turn image k held m ≡ t → ((x : Moment) → IsOngoing k x → rest_of image k x < n → IsEnding image k held x) → IsEnding image k held m
    by _ (gives a rest left on) e ih =
        let x = give image a rest m in
        let cost = ap executed e in
        let b : budget image k x ≤ budget image k m = given_budget image k m a rest left in
        let len : length m.left ≡ suc (length rest) = ap length left in
        later image k held m x (ap (λ (t : Turn). goes_on t m) e) (omega arith)
        (ih x (given_ongoing image k m a rest fit on) (omega arith))
    by _ (steps other fine busy) e ih =
        let x : Moment = record m { chip = stepped image m.chip } in
        let cost : executed (turn image k held m) ≡ 1 = ap executed e in
        let b : budget image k x < budget image k m = stepped_budget image k m fit other fine busy in
        later image k held m x (ap (λ (t : Turn). goes_on t m) e) (omega arith)
        (ih x (stepped_ongoing image k m fit other) (omega arith))
    by _ (ends end) e ih = record { last = 0; end = end; ends = e; few = omega arith }
