-- The two chips of a pair come to each request with equal machines, where they were served alike.
use Rattle.std.proofs.Common.{◌≡◌, ℕ, zero, suc, ◌+◌, ◌<◌, ◌≤◌, Bool, true, false, List, [], ◌∷◌, length, get_or, refl, sym, ap, subst, ◌∙◌, arith, inl, inr, ◌⊎◌}
use Rattle.std.specs.Prelude.{All}
use Rattle.std.specs.List.{AllByRecursion}
use Rattle.std.proofs.lemmas.List.Elements.{recursion_from_All}
use Rattle.std.proofs.lemmas.Bool.{true≢false}
use Rattle.wb_word.specs.Encoding.{instr_of}
use Rattle.wb_rom.specs.declared.images.Image.{Image}
use Rattle.wb_machine.specs.State.{State}
use Rattle.wb_machine.specs.State.{rqm as is_request}
use Rattle.wb_machine.specs.Next.{next}
use Rattle.wb_port.specs.declared.accesses.Access.{Access}
use Rattle.wb_port.specs.declared.accesses.Event.TheVariants as event
use Rattle.wb_port.specs.declared.chips.Chip.{Chip}
use Rattle.wb_port.specs.Facts.{CalmWordsKeepThePort, RaisingWordsTouch}
use Rattle.wb_port.specs.Monitor.{stepped}
use Rattle.wb_port.specs.Port.{accessed}
use Rattle.wb_port.specs.Schedule.{powered, applied}
use Rattle.wb_port.specs.Talk.{IsTransfer}
use Rattle.wb_port.specs.Wait.{word_of}
use Rattle.wb_law.specs.Course.{rests, stride, strides, RestsAt, Given, AsksAfter}
use Rattle.wb_gen.specs.Demo.{padded}
use Rattle.wb_gen.proofs.Words.{IsCalm}
use Rattle.wb_gen.proofs.Circle.{IsServing, Stands, Start, Asking, Served, Going, At, Before, After, IsFree, going_free, going_on, going_turns, asked_free, asked_again, start_free, start_goes, served_free, served_goes, asking_rests, asking_found, served_by, powered_stands}
use Rattle.wb_gen.proofs.Programs.{circle}
use Rattle.wb_gen.proofs.Placed.{AreAlike, equal_alike, op_alike, nothing_alike, turning_alike, leaving_alike, setting_alike, alike_equal}

-- where a chip comes to rest, it comes to rest from its next instruction on
rests_on : (image : Image) (k : ℕ) (c x : Chip) → IsFree image k c → RestsAt image k false c x → RestsAt image k false (stepped image c) x
unfolding stride
rests_on image k c x free r = by_steps r.steps r.comes
  where
    by_steps : (n : ℕ) → strides image k false n c ≡ x → RestsAt image k false (stepped image c) x
    by_steps zero e = absurd (true≢false (sym r.rest ∙ (ap (rests image false) (sym e) ∙ free.works false)))
    by_steps (suc n) e =
        let w = free.works false in
        let s = free.runs in
        let f : stepped image c ≡ stride image k false c = simp (w, s) in
        record { steps = n; comes = ap (strides image k false n) f ∙ e; rest = r.rest }

-- a chip that rests comes to rest where it is
rests_here : (image : Image) (k : ℕ) (c x : Chip) → rests image false c ≡ true → RestsAt image k false c x → c ≡ x
unfolding stride
rests_here image k c x rest r = stays r.steps ∙ r.comes
  where
    stays : (n : ℕ) → c ≡ strides image k false n c
    stays zero = refl
    stays (suc n) = stays n ∙ ap (strides image k false n) (let e : c ≡ stride image k false c = simp rest in e)

-- the word that reads DR
word_op : (a b : Image) (s t : State) → b.drom ≡ a.drom → word_of a s.regs.pc ≡ 0x000091 → word_of b t.regs.pc ≡ 0x000091 → AreAlike s t → AreAlike (next a s) (next b t)
unfolding instr_of
word_op a b s t drom v u h = op_alike _ a b s t drom (ap instr_of v) (ap instr_of u) h

-- the words from an address on
pub HoldsFrom : Image → ℕ → List ℕ → Type 0
HoldsFrom image at [] = Unit {0}
HoldsFrom image at (word ∷ rest) = (word_of image at ≡ word) × HoldsFrom image (suc at) rest

pub holds_from : (image : Image) (at : ℕ) (words : List ℕ) → ((i : ℕ) → i < length words → word_of image (at + i) ≡ get_or words i 0) → HoldsFrom image at words
unfolding HoldsFrom
holds_from image at [] h = tt
holds_from image at (word ∷ rest) h = (
  ap (word_of image) (let e : at ≡ at + 0 = omega arith in e) ∙ h 0 (omega arith),
  holds_from image (suc at) rest (λ i less. ap (word_of image) (let e : suc at + i ≡ at + suc i = omega arith in e) ∙ h (suc i) (omega arith)),
)

module _ (keeps : CalmWordsKeepThePort) (raising : RaisingWordsTouch) (a b : Image) (k m n : ℕ) (p : IsServing a k m) (q : IsServing b k n) (drom : b.drom ≡ a.drom) where
  -- two chips whose machines are alike, and where they come to rest
  record Together (c d x y : Chip) : Type 0 where
    alike : AreAlike c.machine d.machine
    first : RestsAt a k false c x
    second : RestsAt b k false d y

  both_step : (c d x y : Chip) → Together c d x y → IsFree a k c → IsFree b k d → AreAlike (next a c.machine) (next b d.machine) → Together (stepped a c) (stepped b d) x y
  unfolding stepped
  both_step c d x y t f g h = record { alike = h; first = rests_on a k c x f t.first; second = rests_on b k d y g t.second }

  second_steps : (c d x y : Chip) → Together c d x y → IsFree b k d → AreAlike c.machine (next b d.machine) → Together c (stepped b d) x y
  unfolding stepped
  second_steps c d x y t g h = record { alike = h; first = t.first; second = rests_on b k d y g t.second }

  at_word : (image : Image) (pc sr count : ℕ) (asked : Bool) (c : Chip) (w : ℕ) → Stands pc sr count asked c → word_of image pc ≡ w → word_of image c.machine.regs.pc ≡ w
  at_word image pc sr count asked c w h e = ap (word_of image) h.part.pc_is ∙ e

  -- a calm word that both chips execute
  calm_alike : (pc sr count pc' sr' count' : ℕ) (asked asked' : Bool) (c d : Chip) (w : ℕ) → IsCalm w
      → Stands pc sr count asked c → Stands pc' sr' count' asked' d → word_of a pc ≡ w → word_of b pc' ≡ w
      → AreAlike c.machine d.machine → AreAlike (next a c.machine) (next b d.machine)
  calm_alike pc sr count pc' sr' count' asked asked' c d w calm h g v u t =
      op_alike calm.op a b c.machine d.machine drom
      (ap instr_of (at_word a pc sr count asked c w h v) ∙ calm.decoded)
      (ap instr_of (at_word b pc' sr' count' asked' d w g u) ∙ calm.decoded) t

  -- from the last words of the circle
  ask_alike : (c d x y : Chip) (count count' : ℕ) → count < k → count' < k → Stands 1 1024 count false c → Stands 1 1024 count' false d → Together c d x y → x.machine ≡ y.machine
  unfolding instr_of
  ask_alike c d x y count count' less less' h g t =
      let alike =
      op_alike _ a b c.machine d.machine drom
      (ap instr_of (at_word a 1 1024 count false c 0x000026 h p.asks))
      (ap instr_of (at_word b 1 1024 count' false d 0x000026 g q.asks)) t.alike in
      let on = both_step c d x y t (asked_free keeps raising a k m p c count less h) (asked_free keeps raising b k n q d count' less' g) alike in
      let at_c = asked_again keeps raising a k m p c count h in
      let at_d = asked_again keeps raising b k n q d count' g in
      let ex = rests_here a k (stepped a c) x (asking_rests keeps raising a k m p false (stepped a c) at_c) on.first in
      let ey = rests_here b k (stepped b d) y (asking_rests keeps raising b k n q false (stepped b d) at_d) on.second in
      sym (ap (λ (z : Chip). z.machine) ex) ∙ (alike_equal (stepped a c).machine (stepped b d).machine 2 at_c.part.pc_is at_d.part.pc_is on.alike ∙ ap (λ (z : Chip). z.machine) ey)

  turn_alike : (i j : ℕ) (c d x y : Chip) → i ≡ m + 1 → j ≡ n + 1 → At m (Going i) c → At n (Going j) d → Together c d x y → x.machine ≡ y.machine
  turn_alike i j c d x y e f h g t =
      let v : word_of a (3 + i) ≡ 0xA00004 = ap (word_of a) (let s : 3 + i ≡ 4 + m = omega arith in s) ∙ p.turns in
      let u : word_of b (3 + j) ≡ 0xA00004 = ap (word_of b) (let s : 3 + j ≡ 4 + n = omega arith in s) ∙ q.turns in
      let alike = turning_alike a b c.machine d.machine (at_word a (3 + i) 1024 (1 + i) false c _ h v) (at_word b (3 + j) 1024 (1 + j) false d _ g u) t.alike in
      let on = both_step c d x y t (going_free keeps raising a k m p i c (omega arith) h) (going_free keeps raising b k n q j d (omega arith) g) alike in
      ask_alike (stepped a c) (stepped b d) x y (m + 3) (n + 3) p.paced q.paced (going_turns keeps raising a k m p i c e h) (going_turns keeps raising b k n q j d f g) on

  -- both chips execute this word
  word_alike : (i j w : ℕ) (c d x y : Chip) → i ≤ m → j ≤ n → IsCalm w → At m (Going i) c → At n (Going j) d → word_of a (3 + i) ≡ w → word_of b (3 + j) ≡ w
      → Together c d x y → Together (stepped a c) (stepped b d) x y
  word_alike i j w c d x y l r calm h g v u t =
      both_step c d x y t (going_free keeps raising a k m p i c (omega arith) h) (going_free keeps raising b k n q j d (omega arith) g)
      (calm_alike (3 + i) 1024 (1 + i) (3 + j) 1024 (1 + j) false false c d w calm h g v u t.alike)

  circle_alike : (words : List ℕ) (followed : Bool) (i j : ℕ) (c d x y : Chip) → AllByRecursion IsCalm (circle words)
      → i + length (circle words) ≡ m → j + length (circle (padded followed words)) ≡ n
      → HoldsFrom a (4 + i) (circle words) → HoldsFrom b (4 + j) (circle (padded followed words))
      → At m (Going (suc i)) c → At n (Going (suc j)) d → Together c d x y → x.machine ≡ y.machine
  unfolding HoldsFrom
  circle_alike [] followed i j c d x y calm e f v u h g t =
      let l : suc i ≤ m = omega arith in
      let r : suc j ≤ n = omega arith in
      let on = word_alike (suc i) (suc j) 0x138010 c d x y l r calm.0 h g
      (ap (word_of a) (let s : 3 + suc i ≡ 4 + i = omega arith in s) ∙ v.0)
      (ap (word_of b) (let s : 3 + suc j ≡ 4 + j = omega arith in s) ∙ u.0) t in
      turn_alike (suc (suc i)) (suc (suc j)) (stepped a c) (stepped b d) x y (omega arith) (omega arith)
      (going_on keeps raising a k m p (suc i) c l h) (going_on keeps raising b k n q (suc j) d r g) on
  circle_alike (w ∷ words) false i j c d x y calm e f v u h g t =
      let l : suc i ≤ m = omega arith in
      let r : suc j ≤ n = omega arith in
      let on = word_alike (suc i) (suc j) w c d x y l r calm.0 h g
      (ap (word_of a) (let s : 3 + suc i ≡ 4 + i = omega arith in s) ∙ v.0)
      (ap (word_of b) (let s : 3 + suc j ≡ 4 + j = omega arith in s) ∙ u.0) t in
      circle_alike words true (suc i) (suc j) (stepped a c) (stepped b d) x y calm.1 (omega arith) (omega arith)
      (subst (λ (z : ℕ). HoldsFrom a z (circle words)) (let s : suc (4 + i) ≡ 4 + suc i = omega arith in s) v.1)
      (subst (λ (z : ℕ). HoldsFrom b z (circle (padded true words))) (let s : suc (4 + j) ≡ 4 + suc j = omega arith in s) u.1)
      (going_on keeps raising a k m p (suc i) c l h) (going_on keeps raising b k n q (suc j) d r g) on
  circle_alike (w ∷ words) true i j c d x y calm e f v u h g t =
      let l : suc i ≤ m = omega arith in
      let r : suc j ≤ n = omega arith in
      let r2 : suc (suc j) ≤ n = omega arith in
      let on = word_alike (suc i) (suc j) w c d x y l r calm.0 h g
      (ap (word_of a) (let s : 3 + suc i ≡ 4 + i = omega arith in s) ∙ v.0)
      (ap (word_of b) (let s : 3 + suc j ≡ 4 + j = omega arith in s) ∙ u.0) t in
      let at_c = going_on keeps raising a k m p (suc i) c l h in
      let at_d = going_on keeps raising b k n q (suc j) d r g in
      let nothing : word_of b (3 + suc (suc j)) ≡ 0 = ap (word_of b) (let s : 3 + suc (suc j) ≡ suc (4 + j) = omega arith in s) ∙ u.1.0 in
      let past = second_steps (stepped a c) (stepped b d) x y on (going_free keeps raising b k n q (suc (suc j)) (stepped b d) (omega arith) at_d)
      (nothing_alike b (stepped a c).machine (stepped b d).machine (at_word b (3 + suc (suc j)) 1024 (1 + suc (suc j)) false (stepped b d) 0 at_d nothing) on.alike) in
      circle_alike words false (suc i) (suc (suc j)) (stepped a c) (stepped b (stepped b d)) x y calm.1 (omega arith) (omega arith)
      (subst (λ (z : ℕ). HoldsFrom a z (circle words)) (let s : suc (4 + i) ≡ 4 + suc i = omega arith in s) v.1)
      (subst (λ (z : ℕ). HoldsFrom b z (circle (padded false words))) (let s : suc (suc (4 + j)) ≡ 4 + suc (suc j) = omega arith in s) u.1.1)
      at_c (going_on keeps raising b k n q (suc (suc j)) (stepped b d) r2 at_d) past

  -- one transfer after another
  module _ (body : List ℕ) (calm : AllByRecursion IsCalm (circle body)) (e : length (circle body) ≡ m) (f : length (circle (padded true body)) ≡ n)
      (v : HoldsFrom a 4 (circle body)) (u : HoldsFrom b 4 (circle (padded true body))) where
    served_alike : (c d x y : Chip) → At m Served c → At n Served d → Together c d x y → x.machine ≡ y.machine
    served_alike c d x y h g t =
        let left = leaving_alike a b c.machine d.machine (quiet c h) (quiet d g) (at_word a 2 1024 0 true c _ h p.waits) (at_word b 2 1024 0 true d _ g q.waits) t.alike in
        let on = both_step c d x y t (served_free keeps raising a k m p c h) (served_free keeps raising b k n q d g) left in
        let at_c = served_goes keeps raising a k m p c h in
        let at_d = served_goes keeps raising b k n q d g in
        read_alike (stepped a c) (stepped b d) at_c at_d on
      where
        quiet : (z : Chip) → Stands 2 1024 0 true z → is_request z.machine.regs ≡ false
        quiet z s = let r = s.part.sr_is in rw r refl

        read_alike : (c d : Chip) → At m (Going 0) c → At n (Going 0) d → Together c d x y → x.machine ≡ y.machine
        read_alike c d h g t =
            let free_c = going_free keeps raising a k m p 0 c (omega arith) h in
            let free_d = going_free keeps raising b k n q 0 d (omega arith) g in
            let on = both_step c d x y t free_c free_d (reading c d h g t.alike) in
            circle_alike body true 0 0 (stepped a c) (stepped b d) x y calm (omega arith) (omega arith) v u
            (going_on keeps raising a k m p 0 c (omega arith) h) (going_on keeps raising b k n q 0 d (omega arith) g) on
          where
            reading : (c d : Chip) → At m (Going 0) c → At n (Going 0) d → AreAlike c.machine d.machine → AreAlike (next a c.machine) (next b d.machine)
            reading c d h g t = word_op a b c.machine d.machine drom (at_word a 3 1024 1 false c _ h p.reads) (at_word b 3 1024 1 false d _ g q.reads) t

    start_alike : (c d x y : Chip) → At m Start c → At n Start d → Together c d x y → x.machine ≡ y.machine
    start_alike c d x y h g t =
        let set = setting_alike a b c.machine d.machine (at_word a 0 0 0 false c _ h p.sets) (at_word b 0 0 0 false d _ g q.sets) t.alike in
        let on = both_step c d x y t (start_free keeps raising a k m p c h) (start_free keeps raising b k n q d g) set in
        let l = p.paced in
        ask_alike (stepped a c) (stepped b d) x y 1 1 (omega arith) (omega arith) (start_goes keeps raising a k m p c h) (start_goes keeps raising b k n q d g) on

    -- both chips begin, or both were served
    ArePaired : Chip → Chip → Type 0
    ArePaired c d = (At m Start c × At n Start d) ⊎ (At m Served c × At n Served d)

    paired_alike : (c d x y : Chip) → ArePaired c d → Together c d x y → x.machine ≡ y.machine
    unfolding ArePaired
    paired_alike c d x y (inl h) t = start_alike c d x y h.0 h.1 t
    paired_alike c d x y (inr h) t = served_alike c d x y h.0 h.1 t

    paired_asks : (c d x y : Chip) → ArePaired c d → RestsAt a k false c x → RestsAt b k false d y → At m Asking x × At n Asking y
    unfolding ArePaired
    paired_asks c d x y (inl h) r s = (
      asking_found keeps raising a k m p Before c x (record { stage = Start; has = tt; at = h.0 }) r,
      asking_found keeps raising b k n q Before d y (record { stage = Start; has = tt; at = h.1 }) s,
    )
    paired_asks c d x y (inr h) r s = (
      asking_found keeps raising a k m p After c x (record { stage = Served; has = tt; at = h.0 }) r,
      asking_found keeps raising b k n q After d y (record { stage = Served; has = tt; at = h.1 }) s,
    )

    asks_alike : (front : List Access) (c d c' d' x y : Chip) → AllByRecursion IsTransfer front → ArePaired c d → c.machine ≡ d.machine
        → Given a k front c c' → Given b k front d d' → RestsAt a k false c' x → RestsAt b k false d' y → x.machine ≡ y.machine
    unfolding ArePaired
    asks_alike [] c d c' d' x y only pair same given given' r s =
        paired_alike c d x y pair (record {
          alike = equal_alike c.machine d.machine same;
          first = subst (λ (z : Chip). RestsAt a k false z x) (sym given) r;
          second = subst (λ (z : Chip). RestsAt b k false z y) (sym given') s;
        })
    asks_alike (access ∷ front) c d c' d' x y only pair same given given' r s =
        let one = given.0 in
        let other = given'.0 in
        let equal = paired_alike c d one other pair (record { alike = equal_alike c.machine d.machine same; first = given.1; second = given'.1 }) in
        let at = paired_asks c d one other pair given.1 given'.1 in
        asks_alike front (applied a (event.Host access) one) (applied b (event.Host access) other) c' d' x y only.1
        (inr (served_by keeps raising a k m p access one only.0 at.0, served_by keeps raising b k n q access other only.0 at.1))
        (ap (accessed access) equal) given.2 given'.2 r s

    pub requests_alike : (start : List ℕ) (front : List Access) (c d : Chip) → All IsTransfer front
        → AsksAfter a k front (powered start) c → AsksAfter b k front (powered start) d → c.machine ≡ d.machine
    unfolding ArePaired
    requests_alike start front c d only r s =
        asks_alike front (powered start) (powered start) r.after s.after c d (recursion_from_All IsTransfer front only)
        (inl (at_start, at_start)) refl r.given s.given r.request s.request
      where
        at_start : Stands 0 0 0 false (powered start)
        at_start = powered_stands start
