-- From one level to the next.
use Rattle.std.proofs.Common.{◌≡◌, ℕ, ◌+◌, ◌<◌, ◌≤◌, ◌==◌, ◌&&◌, Bool, true, false, List, [], ◌∷◌, ◌++◌, ◌⊎◌, inl, inr, length, take, map, refl, sym, ap, subst, ◌∙◌, arith}
use Rattle.std.specs.Prelude.{Contains, slice_index_or}
use Rattle.std.specs.declared.vec.Vec.{Vec}
use Rattle.std.specs.declared.alloc.Global.{Global}
use Rattle.std.proofs.lemmas.Bool.{cases_lt, eqb-true}
use Rattle.std.proofs.lemmas.List.{length-append, append-nil, append_assoc, map-append}
use Rattle.std.proofs.lemmas.List.Elements.{Contains-append_cases, Contains-append_left, Contains-append_right, Contains-push_cases}
use Rattle.wb_word.specs.declared.sides.Side.{Side}
use Rattle.wb_word.specs.declared.sides.Side.TheVariants as side
use Rattle.wb_rom.specs.declared.images.Image.{Image}
use Rattle.wb_port.specs.declared.accesses.Kind.{Kind}
use Rattle.wb_port.specs.Dialogue.{AllowsEach}
use Rattle.wb_port.specs.Points.{image_of}
use Rattle.wb_explore.specs.declared.layer.Request.{Request}
use Rattle.wb_explore.specs.declared.plan.Plan.{Plan}
use Rattle.wb_explore.specs.declared.reached.ReachedPoint.{ReachedPoint}
use Rattle.wb_explore.specs.Laws.{LayersStay}
use Rattle.wb_explore.specs.Entries.{IsAtSome}
use Rattle.wb_explore.specs.Layers.{Requests, request_view}
use Rattle.wb_explore.specs.Purses.{points_of}
use Rattle.wb_explore.specs.Plans.{runs_of}
use Rattle.wb_explore.specs.Runs.{Asks}
use Rattle.wb_compare.specs.declared.questions.Question.{Question}
use Rattle.wb_compare.specs.declared.pairs.Pair.{Pair}
use Rattle.wb_compare.specs.declared.pairs.Level.{Level}
use Rattle.wb_compare.specs.declared.working.Work.{Work}
use Rattle.wb_compare.specs.Laws.{RunLaws}
use Rattle.wb_compare.specs.Growing.{allows_next, kinds_of, is_silent, nexts_of, all_nexts, AreDistinct}
use Rattle.wb_compare.specs.Settled.{IsSilent}
use Rattle.wb_compare.specs.Working.{IsWork, HasSpare, IsSideOf, IsPair, Settles, AreFresh, Visits, IsLevel, kept_of, settled_by}
use Rattle.wb_compare.proofs.Lists.{listed_head, listed_cases, listed_none, snoc_same, snoc_view, map_contains, same_default, next_allowed, allowed_front}
use Rattle.wb_compare.proofs.Going.{later_same, later_on, pair_later, settled_later}
use Rattle.wb_compare.proofs.Counting.{made_listed}
use Rattle.wb_compare.proofs.Silent.{silent_next, settled_next}
use Rattle.wb_compare.proofs.Nexts.{ComesOf, in_nexts_of, in_all, all_in, nexts_of_in, distinct_all, not_before}

no_requests : (xs : List Request) → (length xs == 0) ≡ true → xs ≡ []
no_requests [] e = refl
no_requests (x ∷ xs) e = absurd (let h = eqb-true (length (x ∷ xs)) 0 e in omega arith)

both_true : (s t : Bool) → (s && t) ≡ true → (s ≡ true) × (t ≡ true)
both_true true true e = (refl, refl)
both_true true false e = absurd (cc)
both_true false t e = absurd (cc)

module _ (a b : Image) (q : Question) where
  -- where a layer has no request state, no request follows

  side_silent : (w : Work) (s : Side) (ks : List Kind) (l : Requests) → IsSideOf a b q w s ks l → l.requests ≡ [] → IsSilent a b q s ks
  side_silent w s ks l h none i v c asks = listed_none at.entry (subst (λ (rs : List Request). Contains rs at.entry) none at.listed)
    where
      at : IsAtSome (request_view l.plan w.graph) (runs_of (image_of a b s) l.plan) l.requests i c
      at = h.layer.requests.complete i v c (subst (λ (p : Plan). Asks (runs_of (image_of a b s) p) i c) (sym h.plan) asks)

  pub pair_silent : (w : Work) (ks : List Kind) (p : Pair) → IsPair a b q w ks p → is_silent p ≡ true → (s : Side) → IsSilent a b q s ks
  pair_silent w ks p h e side.A = side_silent w side.A ks p.first h.first (no_requests p.first.requests (both_true (length p.first.requests == 0) (length p.second.requests == 0) e).0)
  pair_silent w ks p h e side.B = side_silent w side.B ks p.second h.second (no_requests p.second.requests (both_true (length p.first.requests == 0) (length p.second.requests == 0) e).1)

  -- visits

  pub visits_none : (m : ℕ) (w : Work) (ps : List Pair) → IsWork a b q w → HasSpare q w 0 → Visits a b q m [] w w ps ps
  visits_none m w ps work spare = record {
    work = work;
    later = later_same w;
    spare = spare;
    settled = λ ks c. absurd (listed_none ks c);
    kinds = sym (append-nil (map kinds_of ps));
    pairs = λ p c. inl c;
    points = λ x c. inl c;
  }

  pub visits_one : (m : ℕ) (c : List Kind) (old new : Work) (ps : List Pair) (p : Pair) → length c ≡ m + 1 → Settles a b q c old new p → Visits a b q m (c ∷ []) old new ps (ps ++ p ∷ [])
  visits_one m c old new ps p long s = record {
    work = s.work;
    later = s.later;
    spare = s.spare;
    settled = λ ks h. settled ks (listed_cases c ks [] h);
    kinds = map-append kinds_of ps (p ∷ []) ∙ ap (λ (ks : List Kind). map kinds_of ps ++ ks ∷ []) same;
    pairs = λ r h. pairs r (Contains-push_cases ps p r h);
    points = λ x h. points x (s.points x h);
  }
    where
      same : kinds_of p ≡ c
      same = ap (λ (o : Plan). o.kinds) s.pair.first.plan

      settled : (ks : List Kind) → (c ≡ ks) ⊎ Contains [] ks → settled_by a b q new ks
      settled ks (inl e) = subst (settled_by a b q new) e s.settled
      settled ks (inr d) = absurd (listed_none ks d)

      pairs : (r : Pair) → Contains ps r ⊎ (p ≡ r) → Contains ps r ⊎ IsPair a b q new (kinds_of r) r
      pairs r (inl d) = inl d
      pairs r (inr e) = inr (subst (λ (z : Pair). IsPair a b q new (kinds_of z) z) e (subst (λ (ks : List Kind). IsPair a b q new ks p) (sym same) s.pair))

      points : (x : ReachedPoint) → Contains old.purse.reached x ⊎ ((x.point.kinds ≡ c) ⊎ (length x.point.kinds < length c)) → Contains old.purse.reached x ⊎ ((length x.point.kinds ≤ m) ⊎ Contains (c ∷ []) x.point.kinds)
      points x (inl d) = inl d
      points x (inr (inl e)) = inr (inr (listed_head c x.point.kinds [] (sym e)))
      points x (inr (inr less)) = inr (inl (omega arith))

  pub visits_on : LayersStay → (m : ℕ) (cs ds : List (List Kind)) (old mid new : Work) (ps rs ts : List Pair)
      → Visits a b q m cs old mid ps rs → Visits a b q m ds mid new rs ts → Visits a b q m (cs ++ ds) old new ps ts
  visits_on layers m cs ds old mid new ps rs ts v w = record {
    work = w.work;
    later = later_on old mid new v.later w.later;
    spare = w.spare;
    settled = λ ks h. elim (Contains-append_cases cs ds ks h) [ inl d ↦ settled_later a b q layers mid new w.later ks (v.settled ks d) | inr d ↦ w.settled ks d ];
    kinds = w.kinds ∙ ap (λ (l : List (List Kind)). l ++ ds) v.kinds ∙ append_assoc (map kinds_of ps) cs ds;
    pairs = λ p h. elim (w.pairs p h) [ inl d ↦ before p (v.pairs p d) | inr e ↦ inr e ];
    points = λ x h. elim (w.points x h) [ inl d ↦ earlier x (v.points x d) | inr (inl e) ↦ inr (inl e) | inr (inr e) ↦ inr (inr (Contains-append_right cs ds x.point.kinds e)) ];
  }
    where
      before : (p : Pair) → Contains ps p ⊎ IsPair a b q mid (kinds_of p) p → Contains ps p ⊎ IsPair a b q new (kinds_of p) p
      before p (inl d) = inl d
      before p (inr e) = inr (pair_later a b q layers mid new w.later (kinds_of p) p e)

      earlier : (x : ReachedPoint) → Contains old.purse.reached x ⊎ ((length x.point.kinds ≤ m) ⊎ Contains cs x.point.kinds) → Contains old.purse.reached x ⊎ ((length x.point.kinds ≤ m) ⊎ Contains (cs ++ ds) x.point.kinds)
      earlier x (inl d) = inl d
      earlier x (inr (inl e)) = inr (inl e)
      earlier x (inr (inr e)) = inr (inr (Contains-append_left cs ds x.point.kinds e))

  -- what comes of a pair is fresh after those before it were visited
  pub fresh_at : (old mid : Work) (l : Level) (at : ℕ) (d : Pair) (next : List Pair) → IsLevel a b q old l → at < length l.pairs.items
      → Visits a b q l.depth (all_nexts q.shape (take at l.pairs.items)) old mid [] next
      → AreFresh mid.purse.reached (nexts_of q.shape (slice_index_or l.pairs.items at d))
  fresh_at old mid l at d next level less visits x c h = elim (visits.points x c) [
    | inl e ↦ short (level.points x e)
    | inr (inl e) ↦ short e
    | inr (inr e) ↦ twice (in_all q.shape (take at l.pairs.items) x.point.kinds e)
  ]
    where
      here : (k : Kind) × (x.point.kinds ≡ kinds_of (slice_index_or l.pairs.items at d) ++ k ∷ []) × (allows_next q.shape (kinds_of (slice_index_or l.pairs.items at d)) k ≡ true)
      here = in_nexts_of q.shape (slice_index_or l.pairs.items at d) x.point.kinds h

      long : length (kinds_of (slice_index_or l.pairs.items at d)) ≡ l.depth
      long = level.long (kinds_of (slice_index_or l.pairs.items at d)) (map_contains kinds_of l.pairs.items (slice_index_or l.pairs.items at d) (at, less, at_same))
        where
          at_same : slice_index_or l.pairs.items at (slice_index_or l.pairs.items at d) ≡ slice_index_or l.pairs.items at d
          at_same = same_default l.pairs.items at d less

      short : length x.point.kinds ≤ l.depth → ⊥
      short n = absurd (let e = ap length here.1 in let f = length-append (kinds_of (slice_index_or l.pairs.items at d)) (here.0 ∷ []) in let g = long in grind arith)

      twice : ComesOf q.shape (take at l.pairs.items) x.point.kinds → ⊥
      twice o =
          let s = (snoc_same (kinds_of o.pair) (kinds_of (slice_index_or l.pairs.items at d)) o.kind_ here.0 (sym o.same ∙ here.1)).0 in
          not_before l.pairs.items at d less level.apart
          (subst (Contains (map kinds_of (take at l.pairs.items))) s (map_contains kinds_of (take at l.pairs.items) o.pair o.listed))

  module _ (laws : RunLaws) (layers : LayersStay) (old new : Work) (l : Level) (v : Vec Pair Global) (level : IsLevel a b q old l)
      (visits : Visits a b q l.depth (all_nexts q.shape l.pairs.items) old new [] v.items) where
    -- kinds of one transfer more are visited next, or no request leads to them

    same_kinds : map kinds_of v.items ≡ all_nexts q.shape l.pairs.items
    same_kinds = visits.kinds

    shorter : (ks : List Kind) → AllowsEach q.shape ks → length ks ≤ l.depth → settled_by a b q new ks
    shorter ks allowed few = settled_later a b q layers old new visits.later ks (level.settled ks allowed few)

    open_or_silent : (ks : List Kind) (k : Kind) → AllowsEach q.shape (ks ++ k ∷ []) → length ks ≡ l.depth
        → Contains (all_nexts q.shape l.pairs.items) (ks ++ k ∷ []) ⊎ ((s : Side) → IsSilent a b q s ks)
    open_or_silent ks k allowed long = elim (level.whole ks (allowed_front q.shape ks (k ∷ []) allowed) long)
        [ inl c ↦ listed (made_listed kinds_of l.pairs.items ks c) | inr silent ↦ inr silent ]
      where
        by_pair : (p : Pair) → Contains l.pairs.items p → kinds_of p ≡ ks → (t : Bool) → is_silent p ≡ t → Contains (all_nexts q.shape l.pairs.items) (ks ++ k ∷ []) ⊎ ((s : Side) → IsSilent a b q s ks)
        by_pair p c e true silent = inr (pair_silent old ks p (subst (λ (ls : List Kind). IsPair a b q old ls p) e (level.pairs p c)) silent)
        by_pair p c e false busy =
            let ok : allows_next q.shape (kinds_of p) k ≡ true = subst (λ (ls : List Kind). allows_next q.shape ls k ≡ true) (sym e) (next_allowed q.shape ks k allowed) in
            inl (all_in q.shape l.pairs.items p (ks ++ k ∷ []) c (subst (λ (ls : List Kind). Contains (nexts_of q.shape p) (ls ++ k ∷ [])) e (nexts_of_in q.shape p k busy ok)))

        listed : ((p : Pair) × Contains l.pairs.items p × (kinds_of p ≡ ks)) → Contains (all_nexts q.shape l.pairs.items) (ks ++ k ∷ []) ⊎ ((s : Side) → IsSilent a b q s ks)
        listed (p, c, e) = by_pair p c e (is_silent p) refl

    settled_longer : (ks : List Kind) (k : Kind) → AllowsEach q.shape (ks ++ k ∷ []) → length ks ≡ l.depth → settled_by a b q new (ks ++ k ∷ [])
    settled_longer ks k allowed long = elim (open_or_silent ks k allowed long) [
      | inl c ↦ visits.settled (ks ++ k ∷ []) c
      | inr silent ↦ settled_next laws a b q (points_of new.purse.reached) (kept_of new) ks k silent (λ ls ok few. shorter ls ok (omega arith)) allowed
    ]

    -- each list of kinds is empty, or has a last one

    cut_last : (P : List Kind → Type 0) → ((ks : List Kind) (k : Kind) → AllowsEach q.shape (ks ++ k ∷ []) → length ks ≡ l.depth → P (ks ++ k ∷ []))
        → (ks : List Kind) → AllowsEach q.shape ks → length ks ≡ l.depth + 1 → P ks
    cut_last P of_last ks allowed long = elim (snoc_view ks) [
      | inl e ↦ absurd (let n = ap length e in omega arith)
      | inr t ↦ subst P (sym t.2) (of_last t.0 t.1 (subst (AllowsEach q.shape) t.2 allowed) (let n = ap length t.2 in let m = length-append t.0 (t.1 ∷ []) in grind arith))
    ]

    pub next_level : IsLevel a b q new (record { depth = l.depth + 1; pairs = v })
    next_level = record {
      pairs = pairs;
      long = long;
      apart = subst AreDistinct (sym same_kinds) (distinct_all q.shape l.pairs.items level.apart);
      whole = cut_last (λ ks. Contains (map kinds_of v.items) ks ⊎ ((s : Side) → IsSilent a b q s ks)) whole;
      settled = λ ks allowed few. settled ks allowed few (cases_le few);
      points = λ x c. points x (visits.points x c);
    }
      where
        pairs : (p : Pair) → Contains v.items p → IsPair a b q new (kinds_of p) p
        pairs p c = elim (visits.pairs p c) [ inl d ↦ absurd (listed_none p d) | inr h ↦ h ]

        come_long : (c : List Kind) → Contains (all_nexts q.shape l.pairs.items) c → length c ≡ l.depth + 1
        come_long c h =
            let o = in_all q.shape l.pairs.items c h in
            let n = level.long (kinds_of o.pair) (map_contains kinds_of l.pairs.items o.pair o.listed) in
            let e = ap length o.same in
            let f = length-append (kinds_of o.pair) (o.kind_ ∷ []) in
            grind arith

        long : (ks : List Kind) → Contains (map kinds_of v.items) ks → length ks ≡ l.depth + 1
        long ks c = come_long ks (subst (λ (ls : List (List Kind)). Contains ls ks) same_kinds c)

        whole : (ks : List Kind) (k : Kind) → AllowsEach q.shape (ks ++ k ∷ []) → length ks ≡ l.depth → Contains (map kinds_of v.items) (ks ++ k ∷ []) ⊎ ((s : Side) → IsSilent a b q s (ks ++ k ∷ []))
        whole ks k allowed few = elim (open_or_silent ks k allowed few) [
          | inl c ↦ inl (subst (λ (ls : List (List Kind)). Contains ls (ks ++ k ∷ [])) (sym same_kinds) c)
          | inr silent ↦ inr (λ s. silent_next laws a b q s ks k (silent s))
        ]

        settled : (ks : List Kind) → AllowsEach q.shape ks → length ks ≤ l.depth + 1 → (length ks ≤ l.depth) ⊎ (length ks ≡ l.depth + 1) → settled_by a b q new ks
        settled ks allowed few (inl e) = shorter ks allowed e
        settled ks allowed few (inr e) = cut_last (settled_by a b q new) settled_longer ks allowed e

        cases_le : {n : ℕ} → n ≤ l.depth + 1 → (n ≤ l.depth) ⊎ (n ≡ l.depth + 1)
        cases_le {n} h = elim (cases_lt l.depth n) [ inl less ↦ inr (omega arith) | inr few ↦ inl few ]

        points : (x : ReachedPoint) → Contains old.purse.reached x ⊎ ((length x.point.kinds ≤ l.depth) ⊎ Contains (all_nexts q.shape l.pairs.items) x.point.kinds) → length x.point.kinds ≤ l.depth + 1
        points x (inl d) = let h = level.points x d in omega arith
        points x (inr (inl e)) = omega arith
        points x (inr (inr e)) = let h = come_long x.point.kinds e in omega arith

-- the level of no transfers
pub first_level : (a b : Image) (q : Question) (old new : Work) (p : Pair) (v : Vec Pair Global) → v.items ≡ p ∷ [] → old.purse.reached ≡ [] → Settles a b q [] old new p → IsLevel a b q new (record { depth = 0; pairs = v })
first_level a b q old new p v same none s = record {
  pairs = λ r c. pairs r (listed_cases p r [] (subst (λ (rs : List Pair). Contains rs r) same c));
  long = λ ks c. long ks (subst (λ (rs : List Pair). Contains (map kinds_of rs) ks) same c);
  apart = subst (λ (rs : List Pair). AreDistinct (map kinds_of rs)) (sym same) (λ c. listed_none (kinds_of p) c, tt);
  whole = λ ks allowed n. inl (subst (λ (rs : List Pair). Contains (map kinds_of rs) ks) (sym same) (listed_head (kinds_of p) ks [] (here ∙ sym (nil_length ks n))));
  settled = λ ks allowed n. subst (settled_by a b q new) (sym (nil_length ks (omega arith))) s.settled;
  points = λ x c. points x (s.points x c);
}
  where
    here : kinds_of p ≡ []
    here = ap (λ (o : Plan). o.kinds) s.pair.first.plan

    nil_length : (ks : List Kind) → length ks ≡ 0 → ks ≡ []
    nil_length [] e = refl
    nil_length (k ∷ ks) e = absurd (omega arith)

    pairs : (r : Pair) → (p ≡ r) ⊎ Contains [] r → IsPair a b q new (kinds_of r) r
    pairs r (inl e) = subst (λ (z : Pair). IsPair a b q new (kinds_of z) z) e (subst (λ (ks : List Kind). IsPair a b q new ks p) (sym here) s.pair)
    pairs r (inr d) = absurd (listed_none r d)

    long : (ks : List Kind) → Contains (kinds_of p ∷ []) ks → length ks ≡ 0
    long ks c = elim (listed_cases (kinds_of p) ks [] c) [ inl e ↦ ap length (sym e ∙ here) | inr d ↦ absurd (listed_none ks d) ]

    points : (x : ReachedPoint) → Contains old.purse.reached x ⊎ ((x.point.kinds ≡ []) ⊎ (length x.point.kinds < 0)) → length x.point.kinds ≤ 0
    points x (inl d) = absurd (listed_none x (subst (λ (rs : List ReachedPoint). Contains rs x) none d))
    points x (inr (inl e)) = let n = ap length e in omega arith
    points x (inr (inr less)) = omega arith
