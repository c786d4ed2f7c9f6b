-- Runs by turns and by their course: the same ends.
use Rattle.std.proofs.Common.{◌≡◌, ℕ, zero, suc, Bool, true, false, ◌==◌, Option, Some, None, List, [], ◌∷◌, ◌++◌, ◌⊎◌, refl, sym, ap, subst, ◌∙◌}
use mathlib.Core.Logic.◌⊎◌.{inl, inr}
use Rattle.std.specs.Option.{option_to_list}
use Rattle.wb_rom.specs.declared.images.Image.{Image}
use Rattle.wb_port.specs.declared.accesses.Access.{Access}
use Rattle.wb_port.specs.declared.accesses.Event.TheVariants as event
use Rattle.wb_port.specs.declared.chips.Chip.{Chip}
use Rattle.wb_port.specs.declared.runs.Run.{Run}
use Rattle.wb_port.specs.declared.runs.Run.TheVariants.{Answered}
use Rattle.wb_port.specs.Port.{rqm, access_reply}
use Rattle.wb_port.specs.Monitor.{is_breach, stepped}
use Rattle.wb_port.specs.Schedule.{applied}
use Rattle.wb_port.specs.Run.{Moment, Turn, Gives, Steps, Ends, go, is_waiting, turn, goes_on, turns, EndsFrom}
use Rattle.wb_law.specs.Course.{rests, stop_of, stride, strides, RestsAt, StopsAs, Ran}
use Rattle.wb_law.proofs.Turns.{moment, gives, works, works_on, waits, answers, now, later, stays}

module _ (image : Image) (k : ℕ) where
  -- a turn that gives nothing goes on or ends, by what stops the chip
  abbrev pub gone : Option Run → Moment → Turn
  gone (Some end) m = Ends end
  gone None m = Steps (record m { chip = stepped image m.chip })

  pub go_is : (m : Moment) → go image k m ≡ gone (stop_of image k m.chip) m
  unfolding go stop_of
  go_is m = by_count (m.chip.monitor.count == k) (is_breach image m.chip) refl refl
    where
      by_count : (p q : Bool) → (m.chip.monitor.count == k) ≡ p → is_breach image m.chip ≡ q → go image k m ≡ gone (stop_of image k m.chip) m
      by_count true q e f = simp e
      by_count false true e f = simp (e, f)
      by_count false false e f = simp (e, f)

  pub stride_rests : (held : Bool) (c : Chip) → rests image held c ≡ true → stride image k held c ≡ c
  unfolding stride
  stride_rests held c r = simp r

  pub stride_stops : (held : Bool) (c : Chip) (end : Run) → stop_of image k c ≡ Some end → stride image k held c ≡ c
  unfolding stride
  stride_stops held c end s = by_rest (rests image held c) refl
    where
      by_rest : (r : Bool) → rests image held c ≡ r → stride image k held c ≡ c
      by_rest true r = simp r
      by_rest false r = simp (r, s)

  pub stride_steps : (held : Bool) (c : Chip) → rests image held c ≡ false → stop_of image k c ≡ None → stride image k held c ≡ stepped image c
  unfolding stride
  stride_steps held c r s = simp (r, s)

  pub strides_rest : (held : Bool) (j : ℕ) (c : Chip) → rests image held c ≡ true → strides image k held j c ≡ c
  strides_rest held zero c r = refl
  strides_rest held (suc j) c r = ap (strides image k held j) (stride_rests held c r) ∙ strides_rest held j c r

  pub strides_stop : (held : Bool) (j : ℕ) (c : Chip) (end : Run) → stop_of image k c ≡ Some end → strides image k held j c ≡ c
  strides_stop held zero c end s = refl
  strides_stop held (suc j) c end s = ap (strides image k held j) (stride_stops held c end s) ∙ strides_stop held j c end s

  -- one instruction before
  pub rests_before : (held : Bool) (c d : Chip) → rests image held c ≡ false → stop_of image k c ≡ None → RestsAt image k held (stepped image c) d → RestsAt image k held c d
  rests_before held c d r s h = record { steps = suc h.steps; comes = ap (strides image k held h.steps) (stride_steps held c r s) ∙ h.comes; rest = h.rest }

  pub stops_before : (held : Bool) (c : Chip) (end : Run) → rests image held c ≡ false → stop_of image k c ≡ None → StopsAs image k held (stepped image c) end → StopsAs image k held c end
  stops_before held c end r s h = record { at = h.at; steps = suc h.steps; comes = ap (strides image k held h.steps) (stride_steps held c r s) ∙ h.comes; works = h.works; stop = h.stop }

  pub rests_here : (held : Bool) (c : Chip) → rests image held c ≡ true → RestsAt image k held c c
  rests_here held c r = record { steps = zero; comes = refl; rest = r }

  pub stops_here : (held : Bool) (c : Chip) (end : Run) → rests image held c ≡ false → stop_of image k c ≡ Some end → StopsAs image k held c end
  stops_here held c end r s = record { at = c; steps = zero; comes = refl; works = r; stop = s }

  -- whether the run waits for a request, or is held, or is over
  pub works_turn : (held : Bool) (a : Access) (l g : List Access) (c : Chip) (s : List ℕ) → rqm c.machine ≡ false → turn image k held (moment c (a ∷ l) g s) ≡ gone (stop_of image k c) (moment c (a ∷ l) g s)
  works_turn held a l g c s r = works image k held c a l g s r ∙ go_is (moment c (a ∷ l) g s)

  pub held_turn : (g : List Access) (c : Chip) (s : List ℕ) → is_waiting image c ≡ false → turn image k true (moment c [] g s) ≡ gone (stop_of image k c) (moment c [] g s)
  held_turn g c s r = works_on image k c g s r ∙ go_is (moment c [] g s)

  -- from an end to the course
  abbrev pub Comes : Bool → ℕ → List Access → Chip → List Access → List ℕ → Run → Type 0
  Comes held j l c g s end = turn image k held (turns image k held j (moment c l g s)) ≡ Ends end

  shift : (held : Bool) (j : ℕ) (m : Moment) (t : Turn) (end : Run) → turn image k held m ≡ t → turn image k held (turns image k held (suc j) m) ≡ Ends end → turn image k held (turns image k held j (goes_on t m)) ≡ Ends end
  shift held j m t end e h = subst (λ (u : Turn). turn image k held (turns image k held j (goes_on u m)) ≡ Ends end) e h

  plain_ended : (j : ℕ) (c : Chip) (g : List Access) (s : List ℕ) (end : Run) → Comes false j [] c g s end → end ≡ Answered s
  plain_ended j c g s end h =
      let m = moment c [] g s in
      let a = answers image k c g s in
      let same = ap (turn image k false) (stays image k false m (Answered s) a j) in
      cc

  held_waited : (j : ℕ) (c : Chip) (g : List Access) (s : List ℕ) (end : Run) → Comes true j [] c g s end → is_waiting image c ≡ true → Ran image k true [] c s end
  held_waited j c g s end h r =
      let m = moment c [] g s in
      let a = waits image k c g s r in
      let same = ap (turn image k true) (stays image k true m (Answered s) a j) in
      inl (c, rests_here true c r, cc)

  held_stopped : (j : ℕ) (c : Chip) (g : List Access) (s : List ℕ) (end x : Run) → Comes true j [] c g s end → is_waiting image c ≡ false → stop_of image k c ≡ Some x → Ran image k true [] c s end
  held_stopped j c g s end x h r o =
      let m = moment c [] g s in
      let a : turn image k true m ≡ Ends x = held_turn g c s r ∙ ap (λ (p : Option Run). gone p m) o in
      let same = ap (turn image k true) (stays image k true m x a j) in
      let e : x ≡ end = cc in
      inr (stops_here true c end r (o ∙ ap (λ (y : Run). Some y) e))

  pub held_steps : (c : Chip) (g : List Access) (s : List ℕ) → is_waiting image c ≡ false → stop_of image k c ≡ None → turn image k true (moment c [] g s) ≡ Steps (moment (stepped image c) [] g s)
  held_steps c g s r o = held_turn g c s r ∙ ap (λ (p : Option Run). gone p (moment c [] g s)) o

  pub held_before : (c : Chip) (s : List ℕ) (end : Run) → is_waiting image c ≡ false → stop_of image k c ≡ None → Ran image k true [] (stepped image c) s end → Ran image k true [] c s end
  held_before c s end r o (inl t) = inl (t.0, rests_before true c t.0 r o t.1, t.2)
  held_before c s end r o (inr t) = inr (stops_before true c end r o t)

  held_ended : (j : ℕ) (c : Chip) (g : List Access) (s : List ℕ) (end : Run) → Comes true j [] c g s end → Ran image k true [] c s end
  held_ended zero c g s end h = by_wait (is_waiting image c) (stop_of image k c) refl refl
    where
      by_wait : (r : Bool) (o : Option Run) → is_waiting image c ≡ r → stop_of image k c ≡ o → Ran image k true [] c s end
      by_wait true o r p = held_waited zero c g s end h r
      by_wait false (Some x) r p = held_stopped zero c g s end x h r p
      by_wait false None r p = let a = held_steps c g s r p in absurd (cc)
  held_ended (suc j) c g s end h = by_wait (is_waiting image c) (stop_of image k c) refl refl (held_ended j (stepped image c) g s end)
    where
      by_wait : (r : Bool) (o : Option Run) → is_waiting image c ≡ r → stop_of image k c ≡ o → (Comes true j [] (stepped image c) g s end → Ran image k true [] (stepped image c) s end) → Ran image k true [] c s end
      by_wait true o r p rest = held_waited (suc j) c g s end h r
      by_wait false (Some x) r p rest = held_stopped (suc j) c g s end x h r p
      by_wait false None r p rest =
          held_before c s end r p (rest (shift true j (moment c [] g s) (Steps (moment (stepped image c) [] g s)) end (held_steps c g s r p) h))

  -- the moment right after an access was given
  abbrev pub passed : Access → List Access → Chip → List Access → List ℕ → Moment
  passed a l d g s = moment (applied image (event.Host a) d) l (g ++ a ∷ []) (s ++ option_to_list (access_reply a d.machine))

  abbrev pub Split : Bool → Access → List Access → Chip → List Access → List ℕ → Run → Type 0
  Split held a l c g s end =
      ((d : Chip) × RestsAt image k false c d × EndsFrom image k held (passed a l d g s) end)
      ⊎ StopsAs image k false c end

  split_stopped : (held : Bool) (j : ℕ) (a : Access) (l : List Access) (c : Chip) (g : List Access) (s : List ℕ) (end x : Run) → Comes held j (a ∷ l) c g s end → rqm c.machine ≡ false → stop_of image k c ≡ Some x → Split held a l c g s end
  split_stopped held j a l c g s end x h r o =
      let m = moment c (a ∷ l) g s in
      let t : turn image k held m ≡ Ends x = works_turn held a l g c s r ∙ ap (λ (p : Option Run). gone p m) o in
      let same = ap (turn image k held) (stays image k held m x t j) in
      let e : x ≡ end = cc in
      inr (stops_here false c end r (o ∙ ap (λ (y : Run). Some y) e))

  pub works_steps : (held : Bool) (a : Access) (l : List Access) (c : Chip) (g : List Access) (s : List ℕ) → rqm c.machine ≡ false → stop_of image k c ≡ None → turn image k held (moment c (a ∷ l) g s) ≡ Steps (moment (stepped image c) (a ∷ l) g s)
  works_steps held a l c g s r o = works_turn held a l g c s r ∙ ap (λ (p : Option Run). gone p (moment c (a ∷ l) g s)) o

  split_before : (held : Bool) (a : Access) (l : List Access) (c : Chip) (g : List Access) (s : List ℕ) (end : Run) → rqm c.machine ≡ false → stop_of image k c ≡ None → Split held a l (stepped image c) g s end → Split held a l c g s end
  split_before held a l c g s end r o (inl t) = inl (t.0, rests_before false c t.0 r o t.1, t.2)
  split_before held a l c g s end r o (inr t) = inr (stops_before false c end r o t)

  split : (held : Bool) (j : ℕ) (a : Access) (l : List Access) (c : Chip) (g : List Access) (s : List ℕ) (end : Run) → Comes held j (a ∷ l) c g s end → Split held a l c g s end
  split held zero a l c g s end h = by_request (rqm c.machine) (stop_of image k c) refl refl
    where
      by_request : (r : Bool) (o : Option Run) → rqm c.machine ≡ r → stop_of image k c ≡ o → Split held a l c g s end
      by_request true o r p = let t = gives image k held c a l g s r in absurd (cc)
      by_request false (Some x) r p = split_stopped held zero a l c g s end x h r p
      by_request false None r p = let t = works_steps held a l c g s r p in absurd (cc)
  split held (suc j) a l c g s end h = by_request (rqm c.machine) (stop_of image k c) refl refl (split held j a l (stepped image c) g s end)
    where
      by_request : (r : Bool) (o : Option Run) → rqm c.machine ≡ r → stop_of image k c ≡ o → (Comes held j (a ∷ l) (stepped image c) g s end → Split held a l (stepped image c) g s end) → Split held a l c g s end
      by_request true o r p rest =
          inl (c, rests_here false c r, (j, shift held j (moment c (a ∷ l) g s) (Gives a (passed a l c g s)) end (gives image k held c a l g s r) h))
      by_request false (Some x) r p rest = split_stopped held (suc j) a l c g s end x h r p
      by_request false None r p rest =
          split_before held a l c g s end r p (rest (shift held j (moment c (a ∷ l) g s) (Steps (moment (stepped image c) (a ∷ l) g s)) end (works_steps held a l c g s r p) h))

  pub ran_if_ends : (held : Bool) (l : List Access) (c : Chip) (g : List Access) (s : List ℕ) (end : Run) → EndsFrom image k held (moment c l g s) end → Ran image k held l c s end
  ran_if_ends false [] c g s end h = plain_ended h.0 c g s end h.1
  ran_if_ends true [] c g s end h = held_ended h.0 c g s end h.1
  ran_if_ends held (a ∷ l) c g s end h = go_by (split held h.0 a l c g s end h.1) (λ d. ran_if_ends held l (applied image (event.Host a) d) (g ++ a ∷ []) (s ++ option_to_list (access_reply a d.machine)) end)
    where
      go_by : Split held a l c g s end → ((d : Chip) → EndsFrom image k held (passed a l d g s) end → Ran image k held l (applied image (event.Host a) d) (s ++ option_to_list (access_reply a d.machine)) end) → Ran image k held (a ∷ l) c s end
      go_by (inl t) rest = inl (t.0, t.1, rest t.0 t.2)
      go_by (inr t) rest = inr t

  -- from the course to an end
  lift_held : (j : ℕ) (c d : Chip) (g : List Access) (s : List ℕ) (end : Run) → strides image k true j c ≡ d → EndsFrom image k true (moment d [] g s) end → EndsFrom image k true (moment c [] g s) end
  lift_held zero c d g s end e h = subst (λ (x : Chip). EndsFrom image k true (moment x [] g s) end) (sym e) h
  lift_held (suc j) c d g s end e h = by_wait (is_waiting image c) (stop_of image k c) refl refl (lift_held j (stride image k true c) d g s end e h)
    where
      by_wait : (r : Bool) (o : Option Run) → is_waiting image c ≡ r → stop_of image k c ≡ o → EndsFrom image k true (moment (stride image k true c) [] g s) end → EndsFrom image k true (moment c [] g s) end
      by_wait true o r p q = subst (λ (x : Chip). EndsFrom image k true (moment x [] g s) end) (stride_rests true c r) q
      by_wait false (Some x) r p q = subst (λ (y : Chip). EndsFrom image k true (moment y [] g s) end) (stride_stops true c x p) q
      by_wait false None r p q =
          later image k true (moment c [] g s) (Steps (moment (stepped image c) [] g s)) end (held_steps c g s r p)
          (subst (λ (y : Chip). EndsFrom image k true (moment y [] g s) end) (stride_steps true c r p) q)

  lift_works : (held : Bool) (j : ℕ) (a : Access) (l : List Access) (c d : Chip) (g : List Access) (s : List ℕ) (end : Run) → strides image k false j c ≡ d → EndsFrom image k held (moment d (a ∷ l) g s) end → EndsFrom image k held (moment c (a ∷ l) g s) end
  lift_works held zero a l c d g s end e h = subst (λ (x : Chip). EndsFrom image k held (moment x (a ∷ l) g s) end) (sym e) h
  lift_works held (suc j) a l c d g s end e h = by_request (rqm c.machine) (stop_of image k c) refl refl (lift_works held j a l (stride image k false c) d g s end e h)
    where
      by_request : (r : Bool) (o : Option Run) → rqm c.machine ≡ r → stop_of image k c ≡ o → EndsFrom image k held (moment (stride image k false c) (a ∷ l) g s) end → EndsFrom image k held (moment c (a ∷ l) g s) end
      by_request true o r p q = subst (λ (x : Chip). EndsFrom image k held (moment x (a ∷ l) g s) end) (stride_rests false c r) q
      by_request false (Some x) r p q = subst (λ (y : Chip). EndsFrom image k held (moment y (a ∷ l) g s) end) (stride_stops false c x p) q
      by_request false None r p q =
          later image k held (moment c (a ∷ l) g s) (Steps (moment (stepped image c) (a ∷ l) g s)) end (works_steps held a l c g s r p)
          (subst (λ (y : Chip). EndsFrom image k held (moment y (a ∷ l) g s) end) (stride_steps false c r p) q)

  stops_held : (c : Chip) (g : List Access) (s : List ℕ) (end : Run) → StopsAs image k true c end → EndsFrom image k true (moment c [] g s) end
  stops_held c g s end t =
      lift_held t.steps c t.at g s end t.comes
      (now image k true (moment t.at [] g s) end (held_turn g t.at s t.works ∙ ap (λ (p : Option Run). gone p (moment t.at [] g s)) t.stop))

  stops_works : (held : Bool) (a : Access) (l : List Access) (c : Chip) (g : List Access) (s : List ℕ) (end : Run) → StopsAs image k false c end → EndsFrom image k held (moment c (a ∷ l) g s) end
  stops_works held a l c g s end t =
      lift_works held t.steps a l c t.at g s end t.comes
      (now image k held (moment t.at (a ∷ l) g s) end (works_turn held a l g t.at s t.works ∙ ap (λ (p : Option Run). gone p (moment t.at (a ∷ l) g s)) t.stop))

  pub ends_if_ran : (held : Bool) (l : List Access) (c : Chip) (g : List Access) (s : List ℕ) (end : Run) → Ran image k held l c s end → EndsFrom image k held (moment c l g s) end
  ends_if_ran false [] c g s end h = subst (EndsFrom image k false (moment c [] g s)) (sym h) (now image k false (moment c [] g s) (Answered s) (answers image k c g s))
  ends_if_ran true [] c g s end (inl t) =
      let r = t.1 in
      subst (EndsFrom image k true (moment c [] g s)) (sym t.2)
      (lift_held r.steps c t.0 g s (Answered s) r.comes (now image k true (moment t.0 [] g s) (Answered s) (waits image k t.0 g s r.rest)))
  ends_if_ran true [] c g s end (inr t) = stops_held c g s end t
  ends_if_ran held (a ∷ l) c g s end (inl t) =
      let r = t.1 in
      lift_works held r.steps a l c t.0 g s end r.comes
      (later image k held (moment t.0 (a ∷ l) g s) (Gives a (passed a l t.0 g s)) end (gives image k held t.0 a l g s r.rest)
      (ends_if_ran held l (applied image (event.Host a) t.0) (g ++ a ∷ []) (s ++ option_to_list (access_reply a t.0.machine)) end t.2))
  ends_if_ran held (a ∷ l) c g s end (inr t) = stops_works held a l c g s end t

  -- a run has one end at most
  pub one_end : (held : Bool) (m : Moment) (x y : Run) → EndsFrom image k held m x → EndsFrom image k held m y → x ≡ y
  one_end held m x y h i = meet h.0 i.0 m h.1 i.1
    where
      meet : (j n : ℕ) (m : Moment) → turn image k held (turns image k held j m) ≡ Ends x → turn image k held (turns image k held n m) ≡ Ends y → x ≡ y
      meet zero n m p q = let same = ap (turn image k held) (stays image k held m x p n) in cc
      meet (suc j) zero m p q = let same = ap (turn image k held) (stays image k held m y q (suc j)) in cc
      meet (suc j) (suc n) m p q = meet j n (goes_on (turn image k held m) m) p q
