-- Requests: how the monitor stands at a first request.
use Rattle.std.proofs.Common.{◌≡◌, ℕ, zero, suc, ◌+◌, ◌<◌, Bool, true, false, ◌==◌, Option, Some, None, List, [], ◌∷◌, refl, sym, ap, subst, ◌∙◌, arith}
use Rattle.std.proofs.lemmas.Bool.{both_ways, and_left, false_from_ne_true}
use Rattle.wb_rom.specs.declared.images.Image.{Image}
use Rattle.wb_machine.specs.State.{power}
use Rattle.wb_port.specs.declared.accesses.Access.{Access}
use Rattle.wb_port.specs.declared.accesses.Event.TheVariants as event
use Rattle.wb_port.specs.declared.chips.Chip.{Chip}
use Rattle.wb_port.specs.declared.runs.Run.{Run}
use Rattle.wb_port.specs.Port.{rqm}
use Rattle.wb_port.specs.Wait.{raises_request, is_poll}
use Rattle.wb_port.specs.Monitor.{place, word_at, is_idle, is_breach, observed, stepped}
use Rattle.wb_port.specs.Schedule.{powered, applied}
use Rattle.wb_port.specs.Run.{is_waiting}
use Rattle.wb_law.specs.Course.{stop_of, stride, strides, RestsAt, Given}
use Rattle.wb_law.specs.Requests.{IsFresh, FirstRequestsAreFresh, FreshRequestsAreFirst}
use Rattle.wb_law.specs.PortFacts.{PortFacts}
use Rattle.wb_law.proofs.Walks.{IsQuiet, quiet_step, quiet_port, same_rqm}
use Rattle.wb_law.proofs.Faithful.{calm_by, not_idle_off, sane_raised, machine_stepped}
use Rattle.wb_law.proofs.Course.{stride_rests, stride_stops, stride_steps, strides_rest, strides_stop, rests_before, rests_here}

module _ (facts : PortFacts) (image : Image) (k : ℕ) where
  -- a request that stands is fresh
  abbrev pub IsNew : Chip → Type 0
  IsNew c = rqm c.machine ≡ true → IsFresh c

  pub raised_count : (c : Chip) → is_idle image c ≡ false → raises_request (word_at image c) ≡ true → (stepped image c).monitor.count ≡ 0
  unfolding stepped observed
  raised_count c i r = simp (i, r)

  -- a request that comes with an instruction is fresh
  pub new_step : (c : Chip) → rqm c.machine ≡ false → IsNew (stepped image c)
  new_step c silent stands = by_word (raises_request (word_at image c)) refl
    where
      by_word : (r : Bool) → raises_request (word_at image c) ≡ r → IsFresh (stepped image c)
      by_word true r =
          let off = false_from_ne_true (is_poll image (place c)) (λ p. both_ways (raises_request (word_at image c)) (facts.poll_raises_nothing image (place c) p) r) in
          record { count = raised_count c (not_idle_off facts image k c off) r; asked = sane_raised facts image k c r }
      by_word false r = absurd (both_ways (rqm c.machine) silent (facts.only_raised image c.machine r (ap rqm (sym (machine_stepped facts image k c)) ∙ stands)))

  pub new_rest : (j : ℕ) (c d : Chip) → strides image k false j c ≡ d → IsNew c → IsNew d
  new_rest zero c d e h = subst IsNew e h
  new_rest (suc j) c d e h = by_request (rqm c.machine) (stop_of image k c) refl refl (new_rest j (stride image k false c) d e)
    where
      by_request : (r : Bool) (o : Option Run) → rqm c.machine ≡ r → stop_of image k c ≡ o → (IsNew (stride image k false c) → IsNew d) → IsNew d
      by_request true o r q rest = rest (subst IsNew (sym (stride_rests image k false c r)) h)
      by_request false (Some x) r q rest = rest (subst IsNew (sym (stride_stops image k false c x q)) h)
      by_request false None r q rest = rest (subst IsNew (sym (stride_steps image k false c r q)) (new_step c r))

  pub new_request : (c d : Chip) → RestsAt image k false c d → IsNew c → IsFresh d
  new_request c d t h = new_rest t.steps c d t.comes h t.rest

  pub new_given : (l : List Access) (c d : Chip) → Given image k l c d → IsNew c → IsNew d
  new_given [] c d g h = subst IsNew g h
  new_given (a ∷ l) c d g h =
      let f = new_request c g.0 g.1 h in
      new_given l (applied image (event.Host a) g.0) d g.2 (λ stands. record { count = f.count; asked = f.asked })

  pub new_powered : (start : List ℕ) → IsNew (powered start)
  unfolding power rqm
  new_powered start h = absurd (both_ways false refl h)

  -- after a request, in a chip that is held, each instruction is counted
  pub record IsLater (c : Chip) : Type 0 where
    pub stands : rqm c.machine ≡ true
    pub asked : c.monitor.asked ≡ true
    pub counted : 0 < c.monitor.count

  pub unstopped_pace : (c : Chip) → stop_of image k c ≡ None → (c.monitor.count == k) ≡ false
  unfolding stop_of
  unstopped_pace c o = false_from_ne_true (c.monitor.count == k) (λ e. let h = simp e at o in absurd (cc))

  pub unstopped_fine : (c : Chip) → stop_of image k c ≡ None → is_breach image c ≡ false
  unfolding stop_of
  unstopped_fine c o =
      let p = unstopped_pace c o in
      false_from_ne_true (is_breach image c) (λ e. let h = simp (p, e) at o in absurd (cc))

  later_step : (c : Chip) → rqm c.machine ≡ true → c.monitor.asked ≡ true → is_waiting image c ≡ false → stop_of image k c ≡ None → IsLater (stepped image c)
  later_step c stands asked w o =
      let off : is_poll image (place c) ≡ false = simp stands at w in
      let q : IsQuiet facts image k c = record { asked = asked; off = off; calm = calm_by facts image k c asked off (unstopped_fine c o); paced = unstopped_pace c o } in
      let e = quiet_step facts image k c q in
      let count : (stepped image c).monitor.count ≡ c.monitor.count + 1 = ap (λ (d : Chip). d.monitor.count) e in
      record {
        stands = same_rqm c.machine (stepped image c).machine (quiet_port facts image k c q) ∙ stands;
        asked = ap (λ (d : Chip). d.monitor.asked) e ∙ asked;
        counted = omega arith;
      }

  later_on : (j : ℕ) (c d : Chip) → strides image k true j c ≡ d → IsLater c → 0 < d.monitor.count
  later_on zero c d e h = subst (λ (x : Chip). 0 < x.monitor.count) e h.counted
  later_on (suc j) c d e h = by_wait (is_waiting image c) (stop_of image k c) refl refl (later_on j (stride image k true c) d e)
    where
      by_wait : (r : Bool) (o : Option Run) → is_waiting image c ≡ r → stop_of image k c ≡ o → (IsLater (stride image k true c) → 0 < d.monitor.count) → 0 < d.monitor.count
      by_wait true o r q rest = rest (subst IsLater (sym (stride_rests image k true c r)) h)
      by_wait false (Some x) r q rest = rest (subst IsLater (sym (stride_stops image k true c x q)) h)
      by_wait false None r q rest = rest (subst IsLater (sym (stride_steps image k true c r q)) (later_step c h.stands h.asked r q))

  pub first_by_count : (j : ℕ) (b d : Chip) → strides image k true j b ≡ d → IsNew b → rqm d.machine ≡ true → d.monitor.count ≡ 0 → RestsAt image k false b d
  first_by_count zero b d e new stands none = subst (RestsAt image k false b) e (rests_here image k false b (ap (λ (x : Chip). rqm x.machine) e ∙ stands))
  first_by_count (suc j) b d e new stands none = by_request (rqm b.machine) (stop_of image k b) refl refl (first_by_count j (stepped image b) d)
    where
      same : b ≡ d → RestsAt image k false b d
      same s = subst (RestsAt image k false b) s (rests_here image k false b (ap (λ (x : Chip). rqm x.machine) s ∙ stands))

      by_wait : (w : Bool) → is_waiting image b ≡ w → stop_of image k b ≡ None → rqm b.machine ≡ true → RestsAt image k false b d
      by_wait true w o r = same (sym (strides_rest image k true (suc j) b w) ∙ e)
      by_wait false w o r =
          let f = new r in
          let counted : 0 < d.monitor.count = later_on j (stepped image b) d (ap (strides image k true j) (sym (stride_steps image k true b w o)) ∙ e) (later_step b r f.asked w o) in
          absurd (omega arith)

      by_request : (r : Bool) (o : Option Run) → rqm b.machine ≡ r → stop_of image k b ≡ o
          → (strides image k true j (stepped image b) ≡ d → IsNew (stepped image b) → rqm d.machine ≡ true → d.monitor.count ≡ 0 → RestsAt image k false (stepped image b) d)
          → RestsAt image k false b d
      by_request r (Some x) p q rest = same (sym (strides_stop image k true (suc j) b x q) ∙ e)
      by_request true None p q rest = by_wait (is_waiting image b) refl q p
      by_request false None p q rest =
          let w = and_left (rqm b.machine) (is_poll image (place b)) p in
          rests_before image k false b d p q (rest (ap (strides image k true j) (sym (stride_steps image k true b w q)) ∙ e) (new_step b p) stands none)

pub first_requests_fresh : PortFacts → FirstRequestsAreFresh
first_requests_fresh facts image k start l d h =
    new_request facts image k h.after d h.request (new_given facts image k l (powered start) h.after h.given (new_powered facts image k start))

pub fresh_requests_first : PortFacts → FreshRequestsAreFirst
fresh_requests_first facts image k start l b d j g e stands none =
    record { after = b; given = g; request = first_by_count facts image k j b d e (new_given facts image k l (powered start) b g (new_powered facts image k start)) stands none }
