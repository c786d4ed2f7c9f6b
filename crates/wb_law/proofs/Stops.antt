-- Where the strides of a chip lead, and how held runs stop.
use Rattle.std.proofs.Common.{◌≡◌, ℕ, zero, suc, Bool, true, false, Option, Some, None, List, [], ◌∷◌, ◌++◌, ◌⊎◌, refl, sym, ap, subst, ◌∙◌}
use mathlib.Core.Logic.◌⊎◌.{inl, inr}
use Rattle.std.proofs.lemmas.Bool.{both_ways, and_left}
use Rattle.std.specs.Option.{option_to_list}
use Rattle.wb_port.specs.Talk.{transfers_of}
use Rattle.wb_rom.specs.declared.images.Image.{Image}
use Rattle.wb_port.specs.declared.accesses.Access.{Access}
use Rattle.wb_port.specs.declared.accesses.Access.TheVariants as access
use Rattle.wb_port.specs.declared.accesses.Event.TheVariants as event
use Rattle.wb_port.specs.declared.chips.Chip.{Chip}
use Rattle.wb_port.specs.declared.runs.Run.{Run}
use Rattle.wb_port.specs.declared.runs.Run.TheVariants.{Answered}
use Rattle.wb_port.specs.Port.{rqm, access_reply}
use Rattle.wb_port.specs.Wait.{is_poll}
use Rattle.wb_port.specs.Monitor.{place, stepped}
use Rattle.wb_port.specs.Schedule.{applied}
use Rattle.wb_port.specs.Run.{is_waiting}
use Rattle.wb_law.specs.Course.{rests, stop_of, stride, strides, RestsAt, StopsAs, Ran, Given, AsksAfter, StopsBefore, StopsAfter, IsStop}
use Rattle.wb_law.proofs.Course.{stride_rests, stride_stops, stride_steps, strides_rest, strides_stop, rests_before, stops_before, rests_here, stops_here, held_before}

module _ (image : Image) (k : ℕ) where
  -- strides go on from where strides led
  pub strides_then : (held : Bool) (j : ℕ) (c d x : Chip) → strides image k held j c ≡ d → (i : ℕ) → strides image k held i d ≡ x → (n : ℕ) × (strides image k held n c ≡ x)
  strides_then held zero c d x e i f = (i, ap (strides image k held i) e ∙ f)
  strides_then held (suc j) c d x e i f = let t = strides_then held j (stride image k held c) d x e i f in (suc t.0, t.1)

  pub rests_then : (held : Bool) (c d x : Chip) → RestsAt image k held c d → RestsAt image k held d x → RestsAt image k held c x
  rests_then held c d x r t = let n = strides_then held r.steps c d x r.comes t.steps t.comes in record { steps = n.0; comes = n.1; rest = t.rest }

  pub stops_then : (held : Bool) (c d : Chip) (end : Run) → RestsAt image k held c d → StopsAs image k held d end → StopsAs image k held c end
  stops_then held c d end r t = let n = strides_then held r.steps c d t.at r.comes t.steps t.comes in record { at = t.at; steps = n.0; comes = n.1; works = t.works; stop = t.stop }

  -- a fact on a held chip that goes back over an instruction goes back over strides to a request
  pub back : (P : Chip → Type 0) → ((c : Chip) → is_waiting image c ≡ false → stop_of image k c ≡ None → P (stepped image c) → P c) → (j : ℕ) (c d : Chip) → strides image k false j c ≡ d → P d → P c
  back P lifts zero c d e p = subst P (sym e) p
  back P lifts (suc j) c d e p = by_request (rqm c.machine) (stop_of image k c) refl refl (back P lifts j (stride image k false c) d e p)
    where
      by_request : (r : Bool) (o : Option Run) → rqm c.machine ≡ r → stop_of image k c ≡ o → P (stride image k false c) → P c
      by_request true o r q h = subst P (stride_rests image k false c r) h
      by_request false (Some x) r q h = subst P (stride_stops image k false c x q) h
      by_request false None r q h = lifts c (and_left (rqm c.machine) (is_poll image (place c)) r) q (subst P (stride_steps image k false c r q) h)

  pub stops_held : (c : Chip) (end : Run) → StopsAs image k false c end → StopsAs image k true c end
  stops_held c end t =
      back (λ (x : Chip). StopsAs image k true x end) (λ x r q. stops_before image k true x end r q) t.steps c t.at t.comes
      (stops_here image k true t.at end (and_left (rqm t.at.machine) (is_poll image (place t.at)) t.works) t.stop)

  -- a held chip stops before its next request or after it
  pub stops_where : (j : ℕ) (c x : Chip) (end : Run) → strides image k true j c ≡ x → is_waiting image x ≡ false → stop_of image k x ≡ Some end
      → ((d : Chip) × RestsAt image k false c d × StopsAs image k true d end) ⊎ StopsAs image k false c end
  stops_where zero c x end e w s = by_request (rqm c.machine) refl
    where
      here : StopsAs image k true c end
      here = record { at = x; steps = zero; comes = e; works = w; stop = s }

      by_request : (r : Bool) → rqm c.machine ≡ r → ((d : Chip) × RestsAt image k false c d × StopsAs image k true d end) ⊎ StopsAs image k false c end
      by_request true r = inl (c, rests_here image k false c r, here)
      by_request false r = inr (stops_here image k false c end r (ap (stop_of image k) e ∙ s))
  stops_where (suc j) c x end e w s = by_request (rqm c.machine) (stop_of image k c) refl refl (stops_where j (stride image k true c) x end e w s)
    where
      Where : Chip → Type 0
      Where y = ((d : Chip) × RestsAt image k false y d × StopsAs image k true d end) ⊎ StopsAs image k false y end

      there : StopsAs image k true c end
      there = record { at = x; steps = suc j; comes = e; works = w; stop = s }

      lifts : rqm c.machine ≡ false → stop_of image k c ≡ None → Where (stepped image c) → Where c
      lifts r q (inl t) = inl (t.0, rests_before image k false c t.0 r q t.1, t.2)
      lifts r q (inr t) = inr (stops_before image k false c end r q t)

      by_request : (r : Bool) (o : Option Run) → rqm c.machine ≡ r → stop_of image k c ≡ o → Where (stride image k true c) → Where c
      by_request true o r q h = inl (c, rests_here image k false c r, there)
      by_request false (Some y) r q h =
          let same : c ≡ x = sym (strides_stop image k true (suc j) c y q) ∙ e in
          inr (stops_here image k false c end r (ap (stop_of image k) same ∙ s))
      by_request false None r q h =
          lifts r q (subst Where (stride_steps image k true c (and_left (rqm c.machine) (is_poll image (place c)) r) q) h)

  -- what rests and what stops is one
  pub rests_one : (held : Bool) (c d x : Chip) → RestsAt image k held c d → RestsAt image k held c x → d ≡ x
  rests_one held c d x r t = meet r.steps t.steps c r.comes t.comes
    where
      meet : (i j : ℕ) (c : Chip) → strides image k held i c ≡ d → strides image k held j c ≡ x → d ≡ x
      meet zero j c p q = sym p ∙ (sym (strides_rest image k held j c (ap (rests image held) p ∙ r.rest)) ∙ q)
      meet (suc i) zero c p q = sym p ∙ (strides_rest image k held (suc i) c (ap (rests image held) q ∙ t.rest) ∙ q)
      meet (suc i) (suc j) c p q = meet i j (stride image k held c) p q

  pub rests_or_stops : (held : Bool) (c d : Chip) (end : Run) → RestsAt image k held c d → StopsAs image k held c end → ⊥
  rests_or_stops held c d end r t = meet r.steps t.steps c r.comes t.comes
    where
      clash : d ≡ t.at → ⊥
      clash e = both_ways (rests image held t.at) t.works (ap (rests image held) (sym e) ∙ r.rest)

      meet : (i j : ℕ) (c : Chip) → strides image k held i c ≡ d → strides image k held j c ≡ t.at → ⊥
      meet zero j c p q = clash (sym p ∙ (sym (strides_rest image k held j c (ap (rests image held) p ∙ r.rest)) ∙ q))
      meet (suc i) zero c p q = clash (sym p ∙ (strides_stop image k held (suc i) c end (ap (stop_of image k) q ∙ t.stop) ∙ q))
      meet (suc i) (suc j) c p q = meet i j (stride image k held c) p q

  pub given_one : (l : List Access) (c d x : Chip) → Given image k l c d → Given image k l c x → d ≡ x
  given_one [] c d x g h = sym g ∙ h
  given_one (a ∷ l) c d x g h =
      given_one l (applied image (event.Host a) g.0) d x g.2
      (subst (λ (b : Chip). Given image k l (applied image (event.Host a) b) x) (sym (rests_one false c g.0 h.0 g.1 h.1)) h.2)

  pub asks_one : (l : List Access) (c d x : Chip) → AsksAfter image k l c d → AsksAfter image k l c x → d ≡ x
  asks_one l c d x g h =
      rests_one false g.after d x g.request (subst (λ (b : Chip). RestsAt image k false b x) (sym (given_one l c g.after h.after g.given h.given)) h.request)

  -- one access more
  pub given_longer : (l : List Access) (x : Access) (c b : Chip) → AsksAfter image k l c b → Given image k (l ++ x ∷ []) c (applied image (event.Host x) b)
  given_longer [] x c b h = (b, subst (λ (y : Chip). RestsAt image k false y b) (sym h.given) h.request, refl)
  given_longer (a ∷ l) x c b h =
      let g = h.given in
      (g.0, g.1, given_longer l x (applied image (event.Host a) g.0) b (record { after = h.after; given = g.2; request = h.request }))

  pub given_shorter : (l : List Access) (x : Access) (c d : Chip) → Given image k (l ++ x ∷ []) c d → (b : Chip) × AsksAfter image k l c b × (applied image (event.Host x) b ≡ d)
  given_shorter [] x c d g = (g.0, record { after = c; given = refl; request = g.1 }, g.2)
  given_shorter (a ∷ l) x c d g =
      let t = given_shorter l x (applied image (event.Host a) g.0) d g.2 in
      let h = t.1 in
      (t.0, record { after = h.after; given = (g.0, g.1, h.given); request = h.request }, t.2)

  -- held runs, with and without status reads
  ran_lifted : (l : List Access) (c d : Chip) (s : List ℕ) (end : Run) → RestsAt image k false c d → Ran image k true l d s end → Ran image k true l c s end
  ran_lifted [] c d s end r h = back (λ (x : Chip). Ran image k true [] x s end) (λ x p q. held_before image k x s end p q) r.steps c d r.comes h
  ran_lifted (a ∷ l) c d s end r (inl t) = inl (t.0, rests_then false c d t.0 r t.1, t.2)
  ran_lifted (a ∷ l) c d s end r (inr t) = inr (stops_then false c d end r t)

  pub stops_any : (l : List Access) (c : Chip) (s : List ℕ) (end : Run) → StopsAs image k false c end → Ran image k true l c s end
  stops_any [] c s end t = inr (stops_held c end t)
  stops_any (a ∷ l) c s end t = inr t

  no_answer : (end : Run) (s : List ℕ) → IsStop end → end ≡ Answered s → ⊥
  no_answer end s stop e = subst IsStop e stop

  pub strip_to : (l : List Access) (c : Chip) (s : List ℕ) (end : Run) → IsStop end → Ran image k true l c s end → (t : List ℕ) → Ran image k true (transfers_of l) c t end
  strip_to [] c s end stop (inl h) t = absurd (no_answer end s stop h.2)
  strip_to [] c s end stop (inr h) t = inr h
  strip_to (access.Status ∷ l) c s end stop (inl h) t = ran_lifted (transfers_of l) c h.0 t end h.1 (strip_to l h.0 (s ++ option_to_list (access_reply access.Status h.0.machine)) end stop h.2 t)
  strip_to (access.Status ∷ l) c s end stop (inr h) t = stops_any (transfers_of l) c t end h
  strip_to (access.Read ∷ l) c s end stop (inl h) t = inl (h.0, h.1, strip_to l (applied image (event.Host access.Read) h.0) (s ++ option_to_list (access_reply access.Read h.0.machine)) end stop h.2 (t ++ option_to_list (access_reply access.Read h.0.machine)))
  strip_to (access.Read ∷ l) c s end stop (inr h) t = inr h
  strip_to (access.Write b ∷ l) c s end stop (inl h) t = inl (h.0, h.1, strip_to l (applied image (event.Host (access.Write b)) h.0) (s ++ option_to_list (access_reply (access.Write b) h.0.machine)) end stop h.2 (t ++ option_to_list (access_reply (access.Write b) h.0.machine)))
  strip_to (access.Write b ∷ l) c s end stop (inr h) t = inr h

  -- a held run that stops comes to a request before, or stops on the way to it
  parted : (l : List Access) (c : Chip) (s : List ℕ) (end : Run) → IsStop end → Ran image k true l c s end → ((d : Chip) × RestsAt image k false c d × Ran image k true l d s end) ⊎ StopsAs image k false c end
  parted [] c s end stop (inl h) = absurd (no_answer end s stop h.2)
  parted [] c s end stop (inr h) = go_by (stops_where h.steps c h.at end h.comes h.works h.stop)
    where
      go_by : ((d : Chip) × RestsAt image k false c d × StopsAs image k true d end) ⊎ StopsAs image k false c end → ((d : Chip) × RestsAt image k false c d × Ran image k true [] d s end) ⊎ StopsAs image k false c end
      go_by (inl t) = inl (t.0, t.1, inr t.2)
      go_by (inr t) = inr t
  parted (a ∷ l) c s end stop (inl h) = inl (h.0, h.1, inl (h.0, rests_here image k false h.0 (RestsAt.rest h.1), h.2))
  parted (a ∷ l) c s end stop (inr h) = inr h

  pub strip_from : (l : List Access) (c : Chip) (s : List ℕ) (end : Run) → IsStop end → Ran image k true (transfers_of l) c s end → (t : List ℕ) → Ran image k true l c t end
  strip_from [] c s end stop (inl h) t = absurd (no_answer end s stop h.2)
  strip_from [] c s end stop (inr h) t = inr h
  strip_from (access.Status ∷ l) c s end stop h t = go_by (parted (transfers_of l) c s end stop h) (λ d q. strip_from l d s end stop q (t ++ option_to_list (access_reply access.Status d.machine)))
    where
      go_by : ((d : Chip) × RestsAt image k false c d × Ran image k true (transfers_of l) d s end) ⊎ StopsAs image k false c end
          → ((d : Chip) → Ran image k true (transfers_of l) d s end → Ran image k true l d (t ++ option_to_list (access_reply access.Status d.machine)) end)
          → Ran image k true (access.Status ∷ l) c t end
      go_by (inl q) rest = inl (q.0, q.1, rest q.0 q.2)
      go_by (inr q) rest = inr q
  strip_from (access.Read ∷ l) c s end stop (inl h) t = inl (h.0, h.1, strip_from l (applied image (event.Host access.Read) h.0) (s ++ option_to_list (access_reply access.Read h.0.machine)) end stop h.2 (t ++ option_to_list (access_reply access.Read h.0.machine)))
  strip_from (access.Read ∷ l) c s end stop (inr h) t = inr h
  strip_from (access.Write b ∷ l) c s end stop (inl h) t = inl (h.0, h.1, strip_from l (applied image (event.Host (access.Write b)) h.0) (s ++ option_to_list (access_reply (access.Write b) h.0.machine)) end stop h.2 (t ++ option_to_list (access_reply (access.Write b) h.0.machine)))
  strip_from (access.Write b ∷ l) c s end stop (inr h) t = inr h

  -- a held run that stops does so before its last access or after it
  pub stops_from_ran : (l : List Access) (c : Chip) (s : List ℕ) (end : Run) → IsStop end → Ran image k true l c s end → StopsBefore image k l c end ⊎ StopsAfter image k l c end
  stops_from_ran [] c s end stop (inl h) = absurd (no_answer end s stop h.2)
  stops_from_ran [] c s end stop (inr h) = inr (record { after = c; given = refl; stops = h })
  stops_from_ran (a ∷ l) c s end stop (inr h) = inl (inl h)
  stops_from_ran (a ∷ l) c s end stop (inl h) = go_by (stops_from_ran l (applied image (event.Host a) h.0) (s ++ option_to_list (access_reply a h.0.machine)) end stop h.2)
    where
      go_by : StopsBefore image k l (applied image (event.Host a) h.0) end ⊎ StopsAfter image k l (applied image (event.Host a) h.0) end → StopsBefore image k (a ∷ l) c end ⊎ StopsAfter image k (a ∷ l) c end
      go_by (inl t) = inl (inr (h.0, h.1, t))
      go_by (inr t) = inr (record { after = t.after; given = (h.0, h.1, t.given); stops = t.stops })

  pub ran_from_before : (l : List Access) (c : Chip) (s : List ℕ) (end : Run) → StopsBefore image k l c end → Ran image k true l c s end
  ran_from_before [] c s end h = absurd h
  ran_from_before (a ∷ l) c s end (inl h) = inr h
  ran_from_before (a ∷ l) c s end (inr h) = inl (h.0, h.1, ran_from_before l (applied image (event.Host a) h.0) (s ++ option_to_list (access_reply a h.0.machine)) end h.2)

  pub ran_from_after : (l : List Access) (c : Chip) (s : List ℕ) (end : Run) → StopsAfter image k l c end → Ran image k true l c s end
  ran_from_after [] c s end h = inr (subst (λ (x : Chip). StopsAs image k true x end) (sym h.given) h.stops)
  ran_from_after (a ∷ l) c s end h =
      let g = h.given in
      inl (g.0, g.1, ran_from_after l (applied image (event.Host a) g.0) (s ++ option_to_list (access_reply a g.0.machine)) end (record { after = h.after; given = g.2; stops = h.stops }))

  -- with one access more
  pub before_shorter : (l : List Access) (x : Access) (c : Chip) (end : Run) → StopsBefore image k (l ++ x ∷ []) c end → StopsBefore image k l c end ⊎ ((b : Chip) × Given image k l c b × StopsAs image k false b end)
  before_shorter [] x c end (inl h) = inr (c, refl, h)
  before_shorter [] x c end (inr h) = absurd h.2
  before_shorter (a ∷ l) x c end (inl h) = inl (inl h)
  before_shorter (a ∷ l) x c end (inr h) = go_by (before_shorter l x (applied image (event.Host a) h.0) end h.2)
    where
      go_by : StopsBefore image k l (applied image (event.Host a) h.0) end ⊎ ((b : Chip) × Given image k l (applied image (event.Host a) h.0) b × StopsAs image k false b end) → StopsBefore image k (a ∷ l) c end ⊎ ((b : Chip) × Given image k (a ∷ l) c b × StopsAs image k false b end)
      go_by (inl t) = inl (inr (h.0, h.1, t))
      go_by (inr t) = inr (t.0, (h.0, h.1, t.1), t.2)

  pub before_longer : (l : List Access) (x : Access) (c : Chip) (end : Run) → StopsBefore image k l c end ⊎ ((b : Chip) × Given image k l c b × StopsAs image k false b end) → StopsBefore image k (l ++ x ∷ []) c end
  before_longer [] x c end (inl h) = absurd h
  before_longer [] x c end (inr h) = inl (subst (λ (y : Chip). StopsAs image k false y end) (sym h.1) h.2)
  before_longer (a ∷ l) x c end (inl (inl h)) = inl h
  before_longer (a ∷ l) x c end (inl (inr h)) = inr (h.0, h.1, before_longer l x (applied image (event.Host a) h.0) end (inl h.2))
  before_longer (a ∷ l) x c end (inr h) =
      let g = h.1 in
      inr (g.0, g.1, before_longer l x (applied image (event.Host a) g.0) end (inr (h.0, g.2, h.2)))

  pub after_shorter : (l : List Access) (x : Access) (c : Chip) (end : Run) → StopsAfter image k (l ++ x ∷ []) c end → (b : Chip) × AsksAfter image k l c b × StopsAs image k true (applied image (event.Host x) b) end
  after_shorter l x c end h =
      let t = given_shorter l x c h.after h.given in
      (t.0, t.1, subst (λ (y : Chip). StopsAs image k true y end) (sym t.2) h.stops)

  pub after_longer : (l : List Access) (x : Access) (c b : Chip) (end : Run) → AsksAfter image k l c b → StopsAs image k true (applied image (event.Host x) b) end → StopsAfter image k (l ++ x ∷ []) c end
  after_longer l x c b end h t = record { after = applied image (event.Host x) b; given = given_longer l x c b h; stops = t }
