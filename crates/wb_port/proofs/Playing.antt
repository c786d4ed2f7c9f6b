-- A replay follows the turns of its run.
use Rattle.std.proofs.Common.{◌≡◌, ◌≢◌, ℕ, zero, suc, ◌<◌, Bool, true, false, List, ◌∷◌, length, refl, sym, ◌∙◌, ap, subst, arith}
use Rattle.std.proofs.lemmas.Bool.{false≢true}
use Rattle.wb_rom.specs.declared.images.Image.{Image}
use Rattle.wb_machine.specs.State.{power}
use Rattle.wb_port.specs.declared.accesses.Access.{Access}
use Rattle.wb_port.specs.declared.replays.End.{End}
use Rattle.wb_port.specs.declared.replays.Turned.{Turned}
use Rattle.wb_port.specs.declared.replays.Turned.TheVariants.{Gave, Stepped, Ended}
use Rattle.wb_port.specs.declared.runs.Run.{Run}
use Rattle.wb_port.specs.Port.{rqm}
use Rattle.wb_port.specs.Monitor.{stepped, is_breach}
use Rattle.wb_port.specs.Run.{Moment, Turn, Gives, Steps, Ends, give, is_waiting, turn, goes_on, turns, beginning}
use Rattle.wb_port.specs.Talk.{Talk}
use Rattle.wb_port.specs.Replay.{IsTurned}
use Rattle.wb_port.proofs.Ends.{View, gives, steps, ends, view, IsOngoing, rest_of, given_budget, stepped_budget, given_ongoing, stepped_ongoing}

-- the moment is one of the dialogue's run
pub record IsSoFar (image : Image) (k : ℕ) (held : Bool) (d : Talk) (m : Moment) : Type 0 where
  pub count : ℕ
  pub way : turns image k held count (beginning d) ≡ m
  pub fit : IsOngoing k m

-- the turns can be counted from the end as well
pub turns-suc : (image : Image) (k : ℕ) (held : Bool) (j : ℕ) (m : Moment) → turns image k held (suc j) m ≡ goes_on (turn image k held (turns image k held j m)) (turns image k held j m)
turns-suc image k held zero m = refl
turns-suc image k held (suc j) m = turns-suc image k held j (goes_on (turn image k held m) m)

pub power_off : (start : List ℕ) → rqm (power start) ≡ false
unfolding power rqm
power_off start = refl

pub begins : (image : Image) (k : ℕ) (held : Bool) (d : Talk) (m : Moment) → m ≡ beginning d → IsSoFar image k held d m
begins image k held d m e =
    record {
      count = 0;
      way = sym e;
      fit = subst (IsOngoing k) (sym e) (record { sound = λ on. absurd (false≢true (sym (power_off d.start) ∙ on)); small = omega arith });
    }

gives_same : (a b : Access) (m n : Moment) → Gives a m ≡ Gives b n → m ≡ n
gives_same a b m n h = cc

steps_same : (m n : Moment) → Steps m ≡ Steps n → m ≡ n
steps_same m n h = cc

gives_steps : (a : Access) (m n : Moment) → Gives a m ≡ Steps n → ⊥
gives_steps a m n h = cc

ends_gives : (a : Access) (e : Run) (n : Moment) → Ends e ≡ Gives a n → ⊥
ends_gives a e n h = cc

ends_steps : (e : Run) (n : Moment) → Ends e ≡ Steps n → ⊥
ends_steps e n h = cc

-- whether the run goes on
abbrev pub Lasts : Turned → Type 0
Lasts (Gave _) = Unit {0}
Lasts Stepped = Unit {0}
Lasts (Ended _) = ⊥

pub lasts : (t : Turned) → ((e : End) → t ≡ Ended e → ⊥) → Lasts t
lasts (Gave _) h = tt
lasts Stepped h = tt
lasts (Ended e) h = h e refl

-- what a turn that isn't the last leaves: one moment more of the run, from which fewer turns follow
pub record IsNext (image : Image) (k : ℕ) (held : Bool) (d : Talk) (n : ℕ) (old new : Moment) : Type 0 where
  pub so_far : IsSoFar image k held d new
  pub counted : so_far.count ≡ suc n
  pub less : rest_of image k new < rest_of image k old

pub goes_next : (image : Image) (k : ℕ) (held : Bool) (d : Talk) (t : Turned) (old new : Moment) (h : IsSoFar image k held d old) → IsTurned t (turn image k held old) old new → Lasts t → IsNext image k held d h.count old new
goes_next image k held d t old new h e l =
    by (turn image k held old) (view image k held old) refl t e l
  where
    one : (x : Turn) → turn image k held old ≡ x → goes_on x old ≡ new → turns image k held (suc h.count) (beginning d) ≡ new
    one x te ge =
        turns-suc image k held h.count (beginning d)
        ∙ ap (λ (m : Moment). goes_on (turn image k held m) m) h.way
        ∙ ap (λ (y : Turn). goes_on y old) te ∙ ge

    as_given : (a : Access) (rest : List Access) → old.left ≡ a ∷ rest → rqm old.chip.machine ≡ true → turn image k held old ≡ Gives a (give image a rest old) → give image a rest old ≡ new → IsNext image k held d h.count old new
    as_given a rest left on te ge =
        record {
          so_far = record {
            count = suc h.count;
            way = one _ te ge;
            fit = subst (IsOngoing k) ge (given_ongoing image k old a rest h.fit on);
          };
          counted = refl;
          less =
              subst (λ (m : Moment). rest_of image k m < rest_of image k old) ge
              (let b = given_budget image k old a rest left in
              let n : length old.left ≡ suc (length rest) = ap length left in
              omega arith);
        }

    as_stepped : (x : Moment) → x ≡ record old { chip = stepped image old.chip } → old.chip.monitor.count ≢ k → is_breach image old.chip ≡ false → is_waiting image old.chip ≡ false → turn image k held old ≡ Steps x → x ≡ new → IsNext image k held d h.count old new
    as_stepped x xe other fine busy te ge =
        record {
          so_far = record {
            count = suc h.count;
            way = one _ te ge;
            fit = subst (IsOngoing k) (sym xe ∙ ge) (stepped_ongoing image k old h.fit other);
          };
          counted = refl;
          less =
              subst (λ (m : Moment). rest_of image k m < rest_of image k old) (sym xe ∙ ge)
              (let b = stepped_budget image k old h.fit other fine busy in
              omega arith);
        }

    by : (x : Turn) → View image k held old x → turn image k held old ≡ x → (s : Turned) → IsTurned s (turn image k held old) old new → Lasts s → IsNext image k held d h.count old new
    by _ (gives a rest left on) te (Gave b) se l = as_given a rest left on te (gives_same _ _ _ _ (sym te ∙ se))
    by _ (gives a rest left on) te Stepped se l = absurd (gives_steps _ _ _ (sym te ∙ se))
    by _ (gives a rest left on) te (Ended f) se l = absurd l
    by _ (steps other fine busy) te (Gave b) se l = absurd (gives_steps _ _ _ (sym se ∙ te))
    by _ (steps other fine busy) te Stepped se l = as_stepped _ refl other fine busy te (steps_same _ _ (sym te ∙ se))
    by _ (steps other fine busy) te (Ended f) se l = absurd l
    by _ (ends f) te (Gave b) se l = absurd (ends_gives _ _ _ (sym te ∙ se))
    by _ (ends f) te Stepped se l = absurd (ends_steps _ _ (sym te ∙ se))
    by _ (ends f) te (Ended g) se l = absurd l
