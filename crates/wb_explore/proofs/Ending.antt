-- The end of an exploration: where no entry is pending, what was seen says all of a layer.
use Rattle.std.proofs.Common.{◌≡◌, Bool, true, false, Some, None, List, [], ◌⊎◌, inl, inr, refl, sym, ap, ◌∙◌, arith}
use Rattle.std.specs.Prelude.{Contains, All}
use Rattle.std.proofs.lemmas.Bool.{both_ways}
use Rattle.wb_word.specs.Encoding.{addr_at}
use Rattle.wb_word.specs.declared.numbers.Addr.{Addr}
use Rattle.wb_term.specs.Inputs.{Assignment, IsAssignment}
use Rattle.wb_port.specs.declared.accesses.Kind.{Kind}
use Rattle.wb_port.specs.declared.chips.Chip.{Chip}
use Rattle.wb_port.specs.declared.points.Point.{Point}
use Rattle.wb_port.specs.declared.runs.Run.{Run}
use Rattle.wb_port.specs.declared.runs.Run.TheVariants.{Overrun, Breach}
use Rattle.wb_port.specs.Schedule.{powered}
use Rattle.wb_port.specs.Talk.{kinds, IsTransfer}
use Rattle.wb_port.specs.Monitor.{place}
use Rattle.wb_port.specs.Run.{EndsAs}
use Rattle.wb_port.specs.Points.{point_at, Passes}
use Rattle.wb_law.specs.declared.classes.Class.{Class}
use Rattle.wb_law.specs.declared.classes.Class.TheVariants as class
use Rattle.wb_law.specs.Classes.{class_at, DoesNext}
use Rattle.wb_law.specs.Course.{strides, rests, stop_of, StopsBefore, StopsAfter}
use Rattle.wb_explore.specs.HeldLaws.{HeldLaws}
use Rattle.wb_explore.specs.Runs.{Runs, Comes, Asks, point_in}
use Rattle.wb_explore.specs.Entries.{View, IsAt, AreSound, Covered}
use Rattle.wb_explore.specs.Seen.{IsSeen, HoldsRequests, StopsNowhere}
use Rattle.wb_explore.proofs.Ways.{asks_comes, asks_fresh, asks_stands, fresh_asks}

module _ (laws : HeldLaws) (r : Runs) where
  -- how a held run that stops after the last access ends

  pub breaks_at : (i : Assignment) (c : Chip) → Comes r i c → DoesNext r.image r.pace c class.Breaches → EndsAs r.image r.pace true (r.talk i) (Breach (addr_at (place c)))
  breaks_at i c h n = (laws.stop_where r.image r.pace (r.talk i).start (r.talk i).accesses (Breach (addr_at (place c))) tt).1 (inr (record {
    after = h.start;
    given = h.begins;
    stops = record { at = c; steps = h.leads.0; comes = h.leads.1; works = n.0; stop = n.1 };
  }))

  pub overruns_at : (i : Assignment) (c : Chip) → Comes r i c → DoesNext r.image r.pace c class.Overruns → EndsAs r.image r.pace true (r.talk i) Overrun
  overruns_at i c h n = (laws.stop_where r.image r.pace (r.talk i).start (r.talk i).accesses Overrun tt).1 (inr (record {
    after = h.start;
    given = h.begins;
    stops = record { at = c; steps = h.leads.0; comes = h.leads.1; works = n.0; stop = n.1 };
  }))

  -- what a chip that works and stops does next, by how it stops
  pub stops_so : (c : Chip) (end : Run) → rests r.image true c ≡ false → stop_of r.image r.pace c ≡ Some end
      → ((end ≡ Overrun) × DoesNext r.image r.pace c class.Overruns) ⊎ ((end ≡ Breach (addr_at (place c))) × DoesNext r.image r.pace c class.Breaches)
  stops_so c end works stop = by_class (class_at r.image r.pace (point_in r c)) refl
    where
      same : (x : Run) → stop_of r.image r.pace c ≡ Some x → Some end ≡ Some x
      same x e = sym stop ∙ e

      by_class : (x : Class) → class_at r.image r.pace (point_in r c) ≡ x
          → ((end ≡ Overrun) × DoesNext r.image r.pace c class.Overruns) ⊎ ((end ≡ Breach (addr_at (place c))) × DoesNext r.image r.pace c class.Breaches)
      by_class class.Rests e = absurd (both_ways (rests r.image true c) works ((laws.tells r.image r.pace r.side r.kinds c class.Rests).0 e))
      by_class class.Overruns e =
          let n = (laws.tells r.image r.pace r.side r.kinds c class.Overruns).0 e in
          let q = same Overrun n.1 in
          inl (cc, n)
      by_class class.Breaches e =
          let n = (laws.tells r.image r.pace r.side r.kinds c class.Breaches).0 e in
          let q = same (Breach (addr_at (place c))) n.1 in
          inr (cc, n)
      by_class class.GoesOn e =
          let n = (laws.tells r.image r.pace r.side r.kinds c class.GoesOn).0 e in
          let q : Some end ≡ None = sym stop ∙ n.1 in
          absurd (cc)

  -- a held run that stops does so before its last access, or after it, where nothing stops but what is kept
  pub breach_before : (overrun : Bool) → StopsNowhere r overrun → (i : Assignment) → IsAssignment i → (at : Addr)
      → EndsAs r.image r.pace true (r.talk i) (Breach at)
      → StopsBefore r.image r.pace (r.talk i).accesses (powered (r.talk i).start) (Breach at)
  breach_before overrun n i a at ends = elim ((laws.stop_where r.image r.pace (r.talk i).start (r.talk i).accesses (Breach at) tt).0 ends) [ inl b ↦ b | inr s ↦ absurd (after s) ]
    where
      after : StopsAfter r.image r.pace (r.talk i).accesses (powered (r.talk i).start) (Breach at) → ⊥
      after s =
          let c = s.stops.at in
          let come : Comes r i c = record { start = s.after; begins = s.given; leads = (s.stops.steps, s.stops.comes) } in
          elim (stops_so c (Breach at) s.stops.works s.stops.stop) [ inl o ↦ absurd (let e = o.0 in cc) | inr b ↦ n.breaches i a c come b.1 ]

  pub overrun_before : (overrun : Bool) → StopsNowhere r overrun → overrun ≡ false → (i : Assignment) → IsAssignment i
      → EndsAs r.image r.pace true (r.talk i) Overrun
      → StopsBefore r.image r.pace (r.talk i).accesses (powered (r.talk i).start) Overrun
  overrun_before overrun n none i a ends = elim ((laws.stop_where r.image r.pace (r.talk i).start (r.talk i).accesses Overrun tt).0 ends) [ inl b ↦ b | inr s ↦ absurd (after s) ]
    where
      after : StopsAfter r.image r.pace (r.talk i).accesses (powered (r.talk i).start) Overrun → ⊥
      after s =
          let c = s.stops.at in
          let come : Comes r i c = record { start = s.after; begins = s.given; leads = (s.stops.steps, s.stops.comes) } in
          elim (stops_so c Overrun s.stops.works s.stops.stop) [ inl o ↦ absurd (both_ways overrun none (n.overruns i a c come o.1)) | inr b ↦ absurd (let e = b.0 in cc) ]

  -- points with all kinds
  pub passes_come : (i : Assignment) (p : Point) → All IsTransfer (r.talk i).accesses → kinds (r.talk i).accesses ≡ r.kinds → p.kinds ≡ r.kinds
      → Passes r.image r.side r.pace (r.talk i) p → (c : Chip) × Comes r i c × (point_in r c ≡ p)
  passes_come i p only same all passes =
      let h = (laws.passed_last r.image r.side r.pace (r.talk i) p only (all ∙ sym same)).0 passes in
      let c : Chip = strides r.image r.pace true h.steps h.after in (
        c,
        record { start = h.after; begins = h.given; leads = (h.steps, refl) },
        ap (λ (ks : List Kind). point_at r.side ks c) (sym same) ∙ h.point,
      )

  pub comes_passes : (i : Assignment) (c : Chip) → All IsTransfer (r.talk i).accesses → kinds (r.talk i).accesses ≡ r.kinds → Comes r i c
      → Passes r.image r.side r.pace (r.talk i) (point_in r c)
  comes_passes i c only same h = (laws.passed_last r.image r.side r.pace (r.talk i) (point_in r c) only (sym same)).1 (record {
    after = h.start;
    given = h.begins;
    steps = h.leads.0;
    point = ap (point_at r.side (kinds (r.talk i).accesses)) h.leads.1 ∙ ap (λ (ks : List Kind). point_at r.side ks c) same;
  })

  module _ {Q : Type 0} (v : View Q) where
    -- all chips are seen

    pub all_seen : {E : Type 0} (w : View E) (seen : Assignment → Chip → Type 0) → Covered w r [] seen → (i : Assignment) → IsAssignment i → (c : Chip) → Comes r i c → seen i c
    all_seen w seen covered i a c come = elim (covered i a c come) [ inl s ↦ s | inr h ↦ absurd (none h.some.entry h.some.listed) ]
      where
        none : {E : Type 0} (e : E) → Contains [] e → ⊥
        none e (k, less, same) = absurd (omega arith)

    pub stops_nowhere : (points : List Point) (qs : List Q) (overrun : Bool)
        → ((i : Assignment) → IsAssignment i → (c : Chip) → Comes r i c → IsSeen v r points qs overrun i c) → StopsNowhere r overrun
    stops_nowhere points qs overrun seen = record {
      breaches = λ i a c come. (seen i a c come).breaches;
      overruns = λ i a c come. (seen i a c come).overruns;
    }

    -- a request state is one at a first request
    pub asks_at : (i : Assignment) (q : Q) (c : Chip) → Comes r i c → IsAt v r i q c → (v.key q).rqm ≡ true → (v.key q).count ≡ 0 → Asks r i c
    asks_at i q c come t stands none = fresh_asks laws r i c come (ap (λ (p : Point). p.rqm) t.key ∙ stands) (ap (λ (p : Point). p.count) t.key ∙ none)

    pub holds_requests : (points : List Point) (qs : List Q) (overrun : Bool)
        → ((i : Assignment) → IsAssignment i → (c : Chip) → Comes r i c → IsSeen v r points qs overrun i c)
        → AreSound v r qs
        → ((q : Q) → Contains qs q → ((v.key q).rqm ≡ true) × ((v.key q).count ≡ 0))
        → HoldsRequests v r qs
    holds_requests points qs overrun seen sound fresh = record {
      sound = λ q listed i a h. let f = sound q listed i a h in (f.0, asks_at i q f.0 f.1 f.2 (fresh q listed).0 (fresh q listed).1, f.2.stands);
      complete = λ i a c asks. (seen i a c (asks_comes laws r i c asks)).request (asks_stands laws r i c asks) (asks_fresh laws r i c asks).count;
    }
