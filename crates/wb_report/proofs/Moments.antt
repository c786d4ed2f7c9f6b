-- How the moments of a run follow one another.
use Rattle.std.proofs.Common.{◌≡◌, ℕ, zero, suc, ◌<◌, ◌≤◌, inl, inr, ◌⊎◌, Bool, true, false, ◌==◌, cond, List, [], ◌∷◌, ◌++◌, length, refl, sym, ◌∙◌, ap, subst, arith}
use Rattle.wb_word.specs.Encoding.{addr_at}
use Rattle.wb_rom.specs.declared.images.Image.{Image}
use Rattle.wb_port.specs.declared.accesses.Access.{Access}
use Rattle.wb_port.specs.declared.runs.Run.{Run}
use Rattle.wb_port.specs.declared.runs.Run.TheVariants.{Answered, Overrun, Breach}
use Rattle.wb_port.specs.Port.{rqm}
use Rattle.wb_port.specs.Monitor.{place, is_breach, stepped}
use Rattle.wb_port.specs.Run.{Moment, Turn, Gives, Steps, Ends, give, go, is_waiting, turn, goes_on, turns}
use Rattle.wb_law.specs.Course.{IsStop}

-- the moment with more accesses left after those that it has
abbrev pub more : List Access → Moment → Moment
more q m = record m { left = m.left ++ q }

-- a later moment of a run: nothing was given since, or fewer accesses are left
abbrev pub Later : Moment → Moment → Type 0
Later m n = ((n.left ≡ m.left) × (n.said ≡ m.said)) ⊎ (length n.left < length m.left)

later_trans : (l m n : Moment) → Later l m → Later m n → Later l n
later_trans l m n (inl h) (inl i) = inl (i.0 ∙ h.0, i.1 ∙ h.1)
later_trans l m n (inl h) (inr i) = inr (subst (λ xs. length n.left < length xs) h.0 i)
later_trans l m n (inr h) (inl i) = inr (subst (λ xs. length xs < length l.left) (sym i.0) h)
later_trans l m n (inr h) (inr i) = inr (omega arith)

module _ (image : Image) (k : ℕ) where
  -- what the chip does by itself, by the two tests of it
  abbrev went : Bool → Bool → Moment → Turn
  went used breach m =
      cond used (Ends Overrun) (cond breach (Ends (Breach (addr_at (place m.chip)))) (Steps (record m { chip = stepped image m.chip })))

  go_is : (m : Moment) → go image k m ≡ went (m.chip.monitor.count == k) (is_breach image m.chip) m
  unfolding go
  go_is m = refl

  went_more : (q : List Access) (m : Moment) (used breach : Bool) → goes_on (went used breach (more q m)) (more q m) ≡ more q (goes_on (went used breach m) m)
  went_more q m true breach = refl
  went_more q m false true = refl
  went_more q m false false = refl

  go_more : (q : List Access) (m : Moment) → goes_on (go image k (more q m)) (more q m) ≡ more q (goes_on (go image k m) m)
  go_more q m =
      rw (go_is m, go_is (more q m)) (went_more q m (m.chip.monitor.count == k) (is_breach image m.chip))

  went_stop : (q : List Access) (m : Moment) (e : Run) (used breach : Bool) → went used breach m ≡ Ends e → went used breach (more q m) ≡ Ends e
  went_stop q m e true breach h = h
  went_stop q m e false true h = h
  went_stop q m e false false h = absurd (cc)

  go_stop : (q : List Access) (m : Moment) (e : Run) → go image k m ≡ Ends e → go image k (more q m) ≡ Ends e
  go_stop q m e h =
      go_is (more q m) ∙ went_stop q m e (m.chip.monitor.count == k) (is_breach image m.chip) (sym (go_is m) ∙ h)

  went_answers : (m : Moment) (s : List ℕ) (used breach : Bool) → went used breach m ≡ Ends (Answered s) → ⊥
  went_answers m s true breach h = cc
  went_answers m s false true h = cc
  went_answers m s false false h = cc

  went_quiet : (m : Moment) (used breach : Bool) → ((goes_on (went used breach m) m).left ≡ m.left) × ((goes_on (went used breach m) m).said ≡ m.said)
  went_quiet m true breach = (refl, refl)
  went_quiet m false true = (refl, refl)
  went_quiet m false false = (refl, refl)

  go_quiet : (m : Moment) → Later m (goes_on (go image k m) m)
  go_quiet m = rw (go_is m) (inl (went_quiet m (m.chip.monitor.count == k) (is_breach image m.chip)))

  turn_left : (held : Bool) (m : Moment) (a : Access) (rest : List Access) → m.left ≡ a ∷ rest → turn image k held m ≡ cond (rqm m.chip.machine) (Gives a (give image a rest m)) (go image k m)
  unfolding turn
  turn_left held m a rest e = rw e refl

  pub turn_plain : (m : Moment) → m.left ≡ [] → turn image k false m ≡ Ends (Answered m.said)
  unfolding turn
  turn_plain m e = rw e refl

  turn_held : (m : Moment) → m.left ≡ [] → turn image k true m ≡ cond (is_waiting image m.chip) (Ends (Answered m.said)) (go image k m)
  unfolding turn
  turn_held m e = rw e refl

  next_more : (held : Bool) (q : List Access) (m : Moment) (a : Access) (rest : List Access) → m.left ≡ a ∷ rest → goes_on (turn image k held (more q m)) (more q m) ≡ more q (goes_on (turn image k false m) m)
  next_more held q m a rest e =
      rw (turn_left false m a rest e, turn_left held (more q m) a (rest ++ q) (ap (λ xs. xs ++ q) e)) (by (rqm m.chip.machine))
    where
      by : (r : Bool) → goes_on (cond r (Gives a (give image a (rest ++ q) (more q m))) (go image k (more q m))) (more q m) ≡ more q (goes_on (cond r (Gives a (give image a rest m)) (go image k m)) m)
      by true = refl
      by false = go_more q m

  -- an ended run stays where it is
  pub stuck : (held : Bool) (j : ℕ) (m : Moment) (e : Run) → turn image k held m ≡ Ends e → turns image k held j m ≡ m
  stuck held zero m e h = refl
  stuck held (suc j) m e h = rw h (stuck held j m e h)

  turns_suc : (held : Bool) (j : ℕ) (m : Moment) → turns image k held (suc j) m ≡ goes_on (turn image k held (turns image k held j m)) (turns image k held j m)
  turns_suc held zero m = refl
  turns_suc held (suc j) m = turns_suc held j (goes_on (turn image k held m) m)

  pub swap : (held : Bool) (i j : ℕ) (m : Moment) → turns image k held i (turns image k held j m) ≡ turns image k held j (turns image k held i m)
  swap held zero j m = refl
  swap held (suc i) j m =
      ap (turns image k held i) (sym (turns_suc held j m)) ∙ swap held i j (goes_on (turn image k held m) m)

  -- a plain run is a part of any run with more accesses
  pub turns_more : (held : Bool) (q : List Access) (j : ℕ) (m : Moment) → (i : ℕ) × (turns image k held i (more q m) ≡ more q (turns image k false j m))
  turns_more held q zero m = (0, refl)
  turns_more held q (suc j) m = by m.left refl (turns_more held q j)
    where
      by : (left : List Access) → m.left ≡ left → ((n : Moment) → (i : ℕ) × (turns image k held i (more q n) ≡ more q (turns image k false j n))) → (i : ℕ) × (turns image k held i (more q m) ≡ more q (turns image k false (suc j) m))
      by [] e ih =
          let ended = turn_plain m e in
          let here = ih m in
          (here.0, here.1 ∙ ap (more q) (stuck false j m (Answered m.said) ended ∙ sym (stuck false (suc j) m (Answered m.said) ended)))
      by (a ∷ rest) e ih =
          let on = ih (goes_on (turn image k false m) m) in
          (suc on.0, rw (next_more held q m a rest e) on.1)

  later_next : (held : Bool) (m : Moment) → Later m (goes_on (turn image k held m) m)
  later_next held m = by held m.left refl
    where
      by_request : (a : Access) (rest : List Access) (r : Bool) → m.left ≡ a ∷ rest → Later m (goes_on (cond r (Gives a (give image a rest m)) (go image k m)) m)
      by_request a rest true e = inr (rw e (omega arith))
      by_request a rest false e = go_quiet m

      by_wait : (w : Bool) → Later m (goes_on (cond w (Ends (Answered m.said)) (go image k m)) m)
      by_wait true = inl (refl, refl)
      by_wait false = go_quiet m

      by : (h : Bool) (left : List Access) → m.left ≡ left → Later m (goes_on (turn image k h m) m)
      by h (a ∷ rest) e = rw (turn_left h m a rest e) (by_request a rest (rqm m.chip.machine) e)
      by false [] e = rw (turn_plain m e) (inl (refl, refl))
      by true [] e = rw (turn_held m e) (by_wait (is_waiting image m.chip))

  pub later : (held : Bool) (j : ℕ) (m : Moment) → Later m (turns image k held j m)
  later held zero m = inl (refl, refl)
  later held (suc j) m =
      later_trans m (goes_on (turn image k held m) m) (turns image k held (suc j) m) (later_next held m) (later held j (goes_on (turn image k held m) m))

  -- a plain run is answered where no access is left
  pub answered_at : (m : Moment) (s : List ℕ) → turn image k false m ≡ Ends (Answered s) → (m.left ≡ []) × (m.said ≡ s)
  answered_at m s h = by m.left refl
    where
      by_request : (a : Access) (rest : List Access) (r : Bool) → cond r (Gives a (give image a rest m)) (go image k m) ≡ Ends (Answered s) → ⊥
      by_request a rest true e = cc
      by_request a rest false e =
          went_answers m s (m.chip.monitor.count == k) (is_breach image m.chip) (sym (go_is m) ∙ e)

      by : (left : List Access) → m.left ≡ left → (m.left ≡ []) × (m.said ≡ s)
      by [] e = let same = sym (turn_plain m e) ∙ h in (e, cc)
      by (a ∷ rest) e = absurd (by_request a rest (rqm m.chip.machine) (sym (turn_left false m a rest e) ∙ h))

  -- a plain run stops while an access is left, and then it stops so with more of them
  pub stopped_at : (held : Bool) (q : List Access) (m : Moment) (end : Run) → turn image k false m ≡ Ends end → IsStop end → (turn image k held (more q m) ≡ Ends end) × (1 ≤ length m.left)
  stopped_at held q m end h stop = by m.left refl
    where
      by_request : (a : Access) (rest : List Access) (r : Bool) → rqm m.chip.machine ≡ r → m.left ≡ a ∷ rest → cond r (Gives a (give image a rest m)) (go image k m) ≡ Ends end → turn image k held (more q m) ≡ Ends end
      by_request a rest true on e ends = absurd (cc)
      by_request a rest false off e ends =
          turn_left held (more q m) a (rest ++ q) (ap (λ xs. xs ++ q) e) ∙ rw off (go_stop q m end ends)

      by : (left : List Access) → m.left ≡ left → (turn image k held (more q m) ≡ Ends end) × (1 ≤ length m.left)
      by [] e =
          let same : Answered m.said ≡ end = let both = sym (turn_plain m e) ∙ h in cc in
          absurd (subst IsStop (sym same) stop)
      by (a ∷ rest) e = (
        by_request a rest (rqm m.chip.machine) refl e (sym (turn_left false m a rest e) ∙ h),
        rw e (omega arith),
      )
