-- Held chips stay in pace, and each instruction raises the rank.
use Rattle.std.proofs.Common.{◌≡◌, ℕ, zero, suc, ◌+◌, ◌-◌, ◌*◌, ◌<◌, ◌≤◌, Bool, true, false, not, ◌&&◌, ◌||◌, Option, Some, None, List, [], ◌∷◌, ◌⊎◌, refl, sym, ap, subst, ◌∙◌, arith}
use mathlib.Core.Logic.◌⊎◌.{inl, inr}
use Rattle.std.proofs.lemmas.Bool.{both_ways, and_right, false_from_ne_true, eqb-false}
use Rattle.wb_rom.specs.declared.images.Image.{Image}
use Rattle.wb_port.specs.declared.accesses.Access.{Access}
use Rattle.wb_port.specs.declared.accesses.Event.TheVariants as event
use Rattle.wb_port.specs.declared.chips.Chip.{Chip}
use Rattle.wb_port.specs.declared.runs.Run.{Run}
use Rattle.wb_port.specs.Port.{rqm}
use Rattle.wb_port.specs.Wait.{raises_request, is_test, is_poll, follow, to_gate}
use Rattle.wb_port.specs.Monitor.{place, word_at, is_idle, observed, stepped}
use Rattle.wb_port.specs.Schedule.{powered, applied}
use Rattle.wb_port.specs.Run.{is_waiting}
use Rattle.wb_law.specs.Course.{rests, stop_of, stride, strides, Given}
use Rattle.wb_port.specs.Facts.{moved_to}
use Rattle.wb_port.specs.Rank.{lingers, rank_by, rank_of}
use Rattle.wb_law.specs.Requests.{RequestsAreOnTheWay}
use Rattle.wb_law.specs.Points.{IsInPace, HeldChipsStayInPace, RanksRise, RanksAreOnce}
use Rattle.wb_law.specs.PortFacts.{PortFacts}
use Rattle.wb_law.proofs.Walks.{IsQuiet, quiet_step, quiet_port, same_rqm}
use Rattle.wb_law.proofs.Faithful.{sane_step, sane_access, powered_sane, calm_by, machine_stepped, idle_by}
use Rattle.wb_law.proofs.Course.{stride_rests, stride_stops, stride_steps}
use Rattle.wb_law.proofs.Stops.{back}
use Rattle.wb_law.proofs.FreshRequests.{unstopped_pace, unstopped_fine, raised_count}

-- an idle instruction while no request stands
pub record IsIdling (image : Image) (c : Chip) : Type 0 where
  pub asked : c.monitor.asked ≡ true
  pub poll : is_poll image (place c) ≡ true
  pub test : is_test (word_at image c) ≡ false

idle_parts : (image : Image) (c : Chip) → is_idle image c ≡ true → rqm c.machine ≡ false → IsIdling image c
unfolding is_idle
idle_parts image c i r =
    let h : (c.monitor.asked && is_poll image (place c) && (not (is_test (word_at image c)) || false)) ≡ true =
    ap (λ (x : Bool). c.monitor.asked && is_poll image (place c) && (not (is_test (word_at image c)) || x)) (sym r) ∙ i in
    go_by c.monitor.asked (is_poll image (place c)) (is_test (word_at image c)) refl refl refl h
  where
    go_by : (x y z : Bool) → c.monitor.asked ≡ x → is_poll image (place c) ≡ y → is_test (word_at image c) ≡ z → (c.monitor.asked && is_poll image (place c) && (not (is_test (word_at image c)) || false)) ≡ true → IsIdling image c
    go_by true true false a b t h = record { asked = a; poll = b; test = t }
    go_by false y z a b t h = let q = simp a at h in absurd (cc)
    go_by true false z a b t h = let q = simp (a, b) at h in absurd (cc)
    go_by true true true a b t h = let q = simp (a, b, t) at h in absurd (cc)

module _ (facts : PortFacts) (image : Image) (k : ℕ) where
  counted : (c : Chip) → is_idle image c ≡ false → raises_request (word_at image c) ≡ false → (stepped image c).monitor.count ≡ c.monitor.count + 1
  unfolding stepped observed
  counted c i r = simp (i, r)

  idle_count : (c : Chip) → is_idle image c ≡ true → (stepped image c).monitor.count ≡ c.monitor.count
  idle_count c i = ap (λ (d : Chip). d.monitor.count) (facts.idle_moves image c i)

  count_not_k : (c : Chip) → stop_of image k c ≡ None → c.monitor.count ≡ k → ⊥
  count_not_k c o = eqb-false c.monitor.count k (unstopped_pace facts image k c o)

  -- the instruction is idle, or raises a request, or is counted
  pub in_pace_step : (c : Chip) → IsInPace k c → stop_of image k c ≡ None → IsInPace k (stepped image c)
  in_pace_step c p o = record { count = by_idle (is_idle image c) (raises_request (word_at image c)) refl refl; asked = sane_step facts image k c p.asked }
    where
      below : c.monitor.count < k
      below = let n = count_not_k c o in let l = p.count in omega arith

      by_idle : (i r : Bool) → is_idle image c ≡ i → raises_request (word_at image c) ≡ r → (stepped image c).monitor.count ≤ k
      by_idle true r i e = let q = idle_count c i in omega arith
      by_idle false true i e = let q = raised_count facts image k c i e in omega arith
      by_idle false false i e = let q = counted c i e in let b = below in omega arith

  pub in_pace_strides : (held : Bool) (j : ℕ) (c : Chip) → IsInPace k c → IsInPace k (strides image k held j c)
  in_pace_strides held zero c p = p
  in_pace_strides held (suc j) c p = in_pace_strides held j (stride image k held c) (by_rest (rests image held c) (stop_of image k c) refl refl)
    where
      by_rest : (r : Bool) (o : Option Run) → rests image held c ≡ r → stop_of image k c ≡ o → IsInPace k (stride image k held c)
      by_rest true o r q = subst (IsInPace k) (sym (stride_rests image k held c r)) p
      by_rest false (Some x) r q = subst (IsInPace k) (sym (stride_stops image k held c x q)) p
      by_rest false None r q = subst (IsInPace k) (sym (stride_steps image k held c r q)) (in_pace_step c p q)

  pub in_pace_given : (l : List Access) (c d : Chip) → Given image k l c d → IsInPace k c → IsInPace k d
  in_pace_given [] c d g p = subst (IsInPace k) g p
  in_pace_given (a ∷ l) c d g p =
      let r = g.1 in
      let q = subst (IsInPace k) r.comes (in_pace_strides false r.steps c p) in
      in_pace_given l (applied image (event.Host a) g.0) d g.2 (record { count = q.count; asked = sane_access facts image k a g.0 q.asked })

  pub in_pace_powered : (start : List ℕ) → IsInPace k (powered start)
  in_pace_powered start = record { count = omega arith; asked = powered_sane facts image k start }

  -- ranks
  standing_rank : (asked : Bool) (count at : ℕ) → rank_by image k asked true count at ≡ (k + 1 + count) * 8 + 7
  unfolding lingers
  standing_rank asked count at = let h : (asked && false && is_poll image at) ≡ false = no_second asked (is_poll image at) in simp h (omega arith)
    where
      no_second : (x y : Bool) → (x && false && y) ≡ false
      no_second true y = refl
      no_second false y = refl

  lingers_less : (asked standing : Bool) (at : ℕ) → lingers image asked standing at < 8
  unfolding lingers
  lingers_less asked standing at = by_poll (asked && not standing && is_poll image at) (is_poll image at) refl refl
    where
      by_poll : (t p : Bool) → (asked && not standing && is_poll image at) ≡ t → is_poll image at ≡ p → lingers image asked standing at < 8
      by_poll false p t q = simp t (omega arith)
      by_poll true true t q = simp t (facts.gate_near image at q)
      by_poll true false t q = absurd (both_ways (asked && not standing && is_poll image at) (and_right (asked && not standing) (is_poll image at) q) t)

  lingers_here : (asked : Bool) (at : ℕ) → asked ≡ true → is_poll image at ≡ true → lingers image asked false at ≡ to_gate image at
  unfolding lingers
  lingers_here asked at a p = simp (a, p)

  silent_rank : (asked : Bool) (count at : ℕ) → rank_by image k asked false count at ≡ count * 8 + (7 - lingers image asked false at)
  silent_rank asked count at = omega arith

  -- what an instruction that isn't idle raises, by the count and the request after it
  counted_rank : (c : Chip) (n : ℕ) (standing : Bool) → rqm c.machine ≡ standing → rqm (stepped image c).machine ≡ standing
      → (stepped image c).monitor.count ≡ c.monitor.count + 1 → rank_of image k c < rank_of image k (stepped image c)
  counted_rank c n true r t q =
      let before : rank_of image k c ≡ (k + 1 + c.monitor.count) * 8 + 7 =
      ap (λ (x : Bool). rank_by image k c.monitor.asked x c.monitor.count (place c)) r ∙ standing_rank c.monitor.asked c.monitor.count (place c) in
      let d = stepped image c in
      let after : rank_of image k d ≡ (k + 1 + d.monitor.count) * 8 + 7 =
      ap (λ (x : Bool). rank_by image k d.monitor.asked x d.monitor.count (place d)) t ∙ standing_rank d.monitor.asked d.monitor.count (place d) in
      omega arith
  counted_rank c n false r t q =
      let before : rank_of image k c ≡ c.monitor.count * 8 + (7 - lingers image c.monitor.asked false (place c)) =
      ap (λ (x : Bool). rank_by image k c.monitor.asked x c.monitor.count (place c)) r ∙ silent_rank c.monitor.asked c.monitor.count (place c) in
      let d = stepped image c in
      let after : rank_of image k d ≡ d.monitor.count * 8 + (7 - lingers image d.monitor.asked false (place d)) =
      ap (λ (x : Bool). rank_by image k d.monitor.asked x d.monitor.count (place d)) t ∙ silent_rank d.monitor.asked d.monitor.count (place d) in
      let l = lingers_less c.monitor.asked false (place c) in
      let m = lingers_less d.monitor.asked false (place d) in
      omega arith

  raised_rank : (c : Chip) → IsInPace k c → rqm c.machine ≡ false → rqm (stepped image c).machine ≡ true → rank_of image k c < rank_of image k (stepped image c)
  raised_rank c p r t =
      let before : rank_of image k c ≡ c.monitor.count * 8 + (7 - lingers image c.monitor.asked false (place c)) =
      ap (λ (x : Bool). rank_by image k c.monitor.asked x c.monitor.count (place c)) r ∙ silent_rank c.monitor.asked c.monitor.count (place c) in
      let d = stepped image c in
      let after : rank_of image k d ≡ (k + 1 + d.monitor.count) * 8 + 7 =
      ap (λ (x : Bool). rank_by image k d.monitor.asked x d.monitor.count (place d)) t ∙ standing_rank d.monitor.asked d.monitor.count (place d) in
      let l = p.count in
      omega arith

  idle_rank : (c : Chip) → c.monitor.asked ≡ true → is_poll image (place c) ≡ true → is_test (word_at image c) ≡ false → rqm c.machine ≡ false → rank_of image k c < rank_of image k (stepped image c)
  idle_rank c asked poll test r =
      let moves = facts.idle_moves image c (idle_by facts image k c asked poll test) in
      let d : Chip = moved_to (follow image (place c)) c in
      let before : rank_of image k c ≡ c.monitor.count * 8 + (7 - to_gate image (place c)) =
      ap (λ (x : Bool). rank_by image k c.monitor.asked x c.monitor.count (place c)) r
      ∙ (silent_rank c.monitor.asked c.monitor.count (place c)
      ∙ ap (λ (n : ℕ). c.monitor.count * 8 + (7 - n)) (lingers_here c.monitor.asked (place c) asked poll)) in
      let same : rqm d.machine ≡ false = same_rqm c.machine d.machine (record { dr = refl; sr = refl }) ∙ r in
      let after : rank_of image k d ≡ c.monitor.count * 8 + (7 - to_gate image (follow image (place c))) =
      ap (λ (x : Bool). rank_by image k c.monitor.asked x c.monitor.count (follow image (place c))) same
      ∙ (silent_rank c.monitor.asked c.monitor.count (follow image (place c))
      ∙ ap (λ (n : ℕ). c.monitor.count * 8 + (7 - n)) (lingers_here c.monitor.asked (follow image (place c)) asked (facts.poll_follows image (place c) poll))) in
      let nearer = facts.comes_nearer image (place c) poll test in
      let close = facts.gate_near image (place c) poll in
      let less : rank_of image k c < rank_of image k d = omega arith in
      subst (λ (x : Chip). rank_of image k c < rank_of image k x) (sym moves) less

  silent_stays : (c : Chip) → rqm c.machine ≡ false → raises_request (word_at image c) ≡ false → rqm (stepped image c).machine ≡ false
  silent_stays c r e =
      false_from_ne_true (rqm (stepped image c).machine)
      (λ t. both_ways (rqm c.machine) r (facts.only_raised image c.machine e (ap rqm (sym (machine_stepped facts image k c)) ∙ t)))

  pub rises : (c : Chip) → IsInPace k c → is_waiting image c ≡ false → stop_of image k c ≡ None → rank_of image k c < rank_of image k (stepped image c)
  rises c p w o = by_request (rqm c.machine) refl
    where
      standing : rqm c.machine ≡ true → rank_of image k c < rank_of image k (stepped image c)
      standing r =
          let off : is_poll image (place c) ≡ false = simp r at w in
          let asked = p.asked r in
          let q : IsQuiet facts image k c = record { asked = asked; off = off; calm = calm_by facts image k c asked off (unstopped_fine facts image k c o); paced = unstopped_pace facts image k c o } in
          let e = quiet_step facts image k c q in
          counted_rank c 0 true r (same_rqm c.machine (stepped image c).machine (quiet_port facts image k c q) ∙ r) (ap (λ (d : Chip). d.monitor.count) e)

      silent : (i e : Bool) → is_idle image c ≡ i → raises_request (word_at image c) ≡ e → rqm c.machine ≡ false → rank_of image k c < rank_of image k (stepped image c)
      silent i true j e r = raised_rank c p r (ap rqm (machine_stepped facts image k c) ∙ facts.raised_stands image c.machine e)
      silent false false i e r = counted_rank c 0 false r (silent_stays c r e) (counted c i e)
      silent true false i e r = idled (idle_parts image c i r) r
        where
          idled : IsIdling image c → rqm c.machine ≡ false → rank_of image k c < rank_of image k (stepped image c)
          idled h r = idle_rank c h.asked h.poll h.test r

      by_request : (r : Bool) → rqm c.machine ≡ r → rank_of image k c < rank_of image k (stepped image c)
      by_request true r = standing r
      by_request false r = silent (is_idle image c) (raises_request (word_at image c)) refl refl r

  -- a stride lowers no rank, and one that leaves it is none
  stride_rank : (c : Chip) → IsInPace k c → (stride image k true c ≡ c) ⊎ (rank_of image k c < rank_of image k (stride image k true c))
  stride_rank c p = by_wait (is_waiting image c) (stop_of image k c) refl refl
    where
      by_wait : (r : Bool) (o : Option Run) → is_waiting image c ≡ r → stop_of image k c ≡ o → (stride image k true c ≡ c) ⊎ (rank_of image k c < rank_of image k (stride image k true c))
      by_wait true o r q = inl (stride_rests image k true c r)
      by_wait false (Some x) r q = inl (stride_stops image k true c x q)
      by_wait false None r q = inr (subst (λ (x : Chip). rank_of image k c < rank_of image k x) (sym (stride_steps image k true c r q)) (rises c p r q))

  stride_kept : (c : Chip) → IsInPace k c → IsInPace k (stride image k true c)
  stride_kept c p = in_pace_strides true (suc zero) c p

  strides_same : (j : ℕ) (c : Chip) → stride image k true c ≡ c → strides image k true j c ≡ c
  strides_same zero c e = refl
  strides_same (suc j) c e = ap (strides image k true j) e ∙ strides_same j c e

  pub strides_rise : (j : ℕ) (c : Chip) → IsInPace k c → rank_of image k c ≤ rank_of image k (strides image k true j c)
  strides_rise zero c p = omega arith
  strides_rise (suc j) c p = go_by (stride_rank c p) (strides_rise j (stride image k true c) (stride_kept c p))
    where
      go_by : (stride image k true c ≡ c) ⊎ (rank_of image k c < rank_of image k (stride image k true c)) → rank_of image k (stride image k true c) ≤ rank_of image k (strides image k true (suc j) c) → rank_of image k c ≤ rank_of image k (strides image k true (suc j) c)
      go_by (inl e) h = let q = ap (rank_of image k) e in omega arith
      go_by (inr e) h = omega arith

  -- where the rank after some strides is that before them, they were none
  strides_none : (j : ℕ) (c : Chip) → IsInPace k c → rank_of image k c ≡ rank_of image k (strides image k true j c) → c ≡ strides image k true j c
  strides_none zero c p e = refl
  strides_none (suc j) c p e = go_by (stride_rank c p) (strides_rise j (stride image k true c) (stride_kept c p))
    where
      go_by : (stride image k true c ≡ c) ⊎ (rank_of image k c < rank_of image k (stride image k true c)) → rank_of image k (stride image k true c) ≤ rank_of image k (strides image k true (suc j) c) → c ≡ strides image k true (suc j) c
      go_by (inl s) h = sym (strides_same (suc j) c s)
      go_by (inr s) h = absurd (omega arith)

  pub once : (i j : ℕ) (c : Chip) → IsInPace k c → rank_of image k (strides image k true i c) ≡ rank_of image k (strides image k true j c) → strides image k true i c ≡ strides image k true j c
  once zero j c p e = strides_none j c p e
  once (suc i) zero c p e = sym (strides_none (suc i) c p (sym e))
  once (suc i) (suc j) c p e = once i j (stride image k true c) (stride_kept c p) e

pub on_the_way : RequestsAreOnTheWay
on_the_way image k b d r =
    back image k (λ (x : Chip). (j : ℕ) × (strides image k true j x ≡ d))
    (λ c w o h. (suc h.0, ap (strides image k true h.0) (stride_steps image k true c w o) ∙ h.1)) r.steps b d r.comes (zero, refl)

pub stay_in_pace : PortFacts → HeldChipsStayInPace
stay_in_pace facts image k start l b j g = in_pace_strides facts image k true j b (in_pace_given facts image k l (powered start) b g (in_pace_powered facts image k start))

pub ranks_rise : PortFacts → RanksRise
ranks_rise facts image k c p w o = rises facts image k c p w o

pub ranks_once : PortFacts → RanksAreOnce
ranks_once facts image k start l b i j g e = once facts image k i j b (in_pace_given facts image k l (powered start) b g (in_pace_powered facts image k start)) e
