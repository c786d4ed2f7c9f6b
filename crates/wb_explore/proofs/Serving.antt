-- The next access is given to one request state after the other.
use Rattle.std.proofs.Common.{◌≡◌, ◌≢◌, ℕ, zero, suc, ◌+◌, ◌*◌, ◌^◌, ◌<◌, ◌≤◌, Bool, true, false, is_some, Option, Some, None, List, [], ◌∷◌, ◌++◌, ◌⊎◌, inl, inr, length, take, map, slice_get, slice_index_or, refl, sym, ap, subst, ◌∙◌, arith, append-nil}
use Rattle.std.specs.Prelude.{Contains, All, AllPairs}
use Rattle.std.proofs.lemmas.List.{length-append, length_push, length-take-le, get_or-take, get_or_default, take_more, take_all}
use Rattle.std.proofs.lemmas.Bool.{cases_lt}
use Rattle.std.proofs.lemmas.List.Elements.{Contains-append_left, Contains-append_right, Contains-append_cases, Contains-push_cases}
use Rattle.std.proofs.lemmas.Option.{get_or_from_slice_get, slice_get_within}
use Rattle.wb_rom.specs.declared.images.Image.{Image}
use Rattle.wb_term.specs.Inputs.{Assignment, IsAssignment}
use Rattle.wb_term.specs.Terms.{Terms}
use Rattle.wb_term.specs.Values.{bit_value}
use Rattle.wb_term.specs.Growth.{Grown, AddsAtMost, total_weight}
use Rattle.wb_port.specs.declared.accesses.Kind.{Kind}
use Rattle.wb_port.specs.declared.accesses.Power.{Power}
use Rattle.wb_port.specs.declared.accesses.Power.TheVariants as power
use Rattle.wb_port.specs.declared.chips.Chip.{Chip}
use Rattle.wb_port.specs.declared.points.Point.{Point}
use Rattle.wb_port.specs.declared.points.Shown.{Shown}
use Rattle.wb_port.specs.declared.accesses.Event.TheVariants as event
use Rattle.wb_port.specs.Schedule.{applied}
use Rattle.wb_law.specs.Values.{DifferentValuesAreNoMore}
use Rattle.wb_symstep.specs.declared.state.SymState.{SymState}
use Rattle.wb_symstep.specs.Laws.{GrowthKeepsStates}
use Rattle.wb_point.specs.Shows.{shows}
use Rattle.wb_point.specs.Laws.{DialoguesAreOfTheirKinds, DialoguesGrowAtTheEnd}
use Rattle.wb_explore.specs.declared.plan.Plan.{Plan}
use Rattle.wb_explore.specs.declared.layer.Request.{Request}
use Rattle.wb_explore.specs.declared.entries.Entry.{Entry}
use Rattle.wb_explore.specs.declared.reached.ReachedPoint.{ReachedPoint}
use Rattle.wb_explore.specs.HeldLaws.{HeldLaws}
use Rattle.wb_explore.specs.Purses.{Holding, IsPurse, points_of}
use Rattle.wb_explore.specs.Runs.{Asks, Begins, Comes, point_in}
use Rattle.wb_explore.specs.Entries.{IsSound, IsAtSome, Covered, Carries}
use Rattle.wb_explore.specs.Plans.{runs_of}
use Rattle.wb_explore.specs.Layers.{IsLayer, IsRequest, Requests, Knows, AddsPassed}
use Rattle.wb_explore.specs.Explored.{longer_plan, IsOfOther}
use Rattle.wb_explore.specs.Growth.{start_nodes, IsWithin, GrowsByPoints, GrowsBySteps, HasRoom}
use Rattle.wb_explore.specs.Pending.{entry_view, IsEntry, IsFound, ArePending, AreAllFound, AreAhead, IsPut, each_of, list_of, found_in}
use Rattle.wb_explore.specs.Transfers.{next_access, IsAsked, AreGiven, ArePut, IsPlaceNoted, IsGivenAt, IsServed, AreServed}
use Rattle.wb_explore.proofs.Lists.{listed_head, listed_tail, listed_cases, listed_none, from_all, point_listed, listed_point}
use Rattle.wb_explore.proofs.Growth.{◌▸◌, grown_same}
use Rattle.wb_explore.proofs.Growing.{at_grown, carries_grown}
use Rattle.wb_explore.specs.declared.going.Arrivals.{Arrivals}
use Rattle.wb_explore.proofs.Onward.{each_from, adds_passed, adds_on, adds_none, adds_raised}
use Rattle.wb_explore.proofs.Putting.{talks}
use Rattle.wb_explore.proofs.Ways.{asks_comes}
use Rattle.wb_explore.proofs.Ending.{comes_passes}
use Rattle.wb_explore.proofs.Giving.{begins_at, given_some, given_noted, given_sound, asked_grown}
use Rattle.wb_explore.proofs.Ended.{adds_length}
use Rattle.wb_explore.proofs.Room.{transfer_room, fault_within, early_within, all_grows}
use Rattle.wb_explore.proofs.Counting.{served_count, first_pairs}

module _ (image : Image) (p : Plan) where
  -- where each point of the plan in the purse is found, that of an entry is
  pub found_fresh : (g : Terms) (reached : List ReachedPoint) (es : List Entry) (e : Entry) → IsEntry g image p e → AreAllFound p reached es → All (λ (r : ReachedPoint). r.point ≡ e.key → IsFound es e.key) reached
  found_fresh g reached es e x h k d inside q =
      subst (IsFound es) q
      (h (slice_index_or reached k d) (k, inside, get_or_default reached k (slice_index_or reached k d) d inside) (ap (λ (y : Point). y.side) q ∙ x.side) (ap (λ (y : Point). y.kinds) q ∙ x.kinds))

  pub found_ahead : (reached : List ReachedPoint) (es : List Entry) → AreAllFound p reached es → AreAhead image p reached es 0
  found_ahead reached es h = record { placed = λ x c side kinds. inl (h x c side kinds); ahead = λ e c. omega arith }

  -- points that were added leave the others
  pub point_kept : (old new : List ReachedPoint) → AddsPassed image p old new → (x : Point) → Contains (points_of old) x → Contains (points_of new) x
  point_kept old new adds x c =
      let r = point_listed old x c in
      subst (Contains (points_of new)) r.2 (listed_point new r.0 (subst (λ (l : List ReachedPoint). Contains l r.0) (sym adds.after) (Contains-append_left old adds.added r.0 r.1)))

  -- one entry put, and two after each other

  pub put_single : (g h : Terms) (before after : List ReachedPoint) (es fs : List Entry) (e : Entry) → AreAllFound p before es → IsPut image p g h before after es e fs → ArePut image p g h before after es (e ∷ []) fs
  put_single g h before after es fs e all x = record {
    pending = x.pending;
    carries = x.carries;
    found = x.found all;
    noted = λ n c w. noted n w (listed_cases e n [] c);
    count = x.count;
  }
    where
      noted : (n : Entry) → is_some n.witness ≡ true → (e ≡ n) ⊎ Contains [] n → Contains (points_of after) n.key
      noted n w (inl q) = subst (λ (m : Entry). Contains (points_of after) m.key) q (x.noted (ap (λ (m : Entry). is_some m.witness) q ∙ w))
      noted n w (inr c) = absurd (listed_none n c)

  pub put_both : (keeps : GrowthKeepsStates) (g h k : Terms) (grown : Grown g h) (before mid after : List ReachedPoint) (es fs gs : List Entry) (a b : Entry) → IsEntry g image p b → AreAllFound p before es
      → IsPut image p g h before mid es a fs → IsPut image p h k mid after fs b gs → ArePut image p g k before after es (a ∷ b ∷ []) gs
  put_both keeps g h k grown before mid after es fs gs a b z all x y = record {
    pending = y.pending;
    carries = λ i d c come t. y.carries i d c come (by_entry i d c come t (Contains-append_cases es (a ∷ b ∷ []) t.entry t.listed));
    found = y.found (x.found all);
    noted = λ n c w. noted n w (listed_cases a n (b ∷ []) c);
    count = let l = x.count in let m = y.count in omega arith;
  }
    where
      last : (n : Entry) → is_some n.witness ≡ true → (b ≡ n) ⊎ Contains [] n → Contains (points_of after) n.key
      last n w (inl q) = subst (λ (m : Entry). Contains (points_of after) m.key) q (y.noted (ap (λ (m : Entry). is_some m.witness) q ∙ w))
      last n w (inr c) = absurd (listed_none n c)

      noted : (n : Entry) → is_some n.witness ≡ true → (a ≡ n) ⊎ Contains (b ∷ []) n → Contains (points_of after) n.key
      noted n w (inl q) = point_kept mid after y.adds n.key (subst (λ (m : Entry). Contains (points_of mid) m.key) q (x.noted (ap (λ (m : Entry). is_some m.witness) q ∙ w)))
      noted n w (inr c) = last n w (listed_cases b n [] c)

      by_entry : (i : Assignment) → IsAssignment i → (c : Chip) → Comes (runs_of image p) i c → (t : IsAtSome (entry_view g) (runs_of image p) (es ++ a ∷ b ∷ []) i c) → Contains es t.entry ⊎ Contains (a ∷ b ∷ []) t.entry → IsAtSome (entry_view h) (runs_of image p) (fs ++ b ∷ []) i c
      by_entry i d c come t listed = from_listed listed
        where
          first : Contains (es ++ a ∷ []) t.entry → IsAtSome (entry_view h) (runs_of image p) (fs ++ b ∷ []) i c
          first m = let u = x.carries i d c come (record { entry = t.entry; listed = m; is_at = t.is_at }) in record { entry = u.entry; listed = Contains-append_left fs (b ∷ []) u.entry u.listed; is_at = u.is_at }

          final : b ≡ t.entry → IsAtSome (entry_view h) (runs_of image p) (fs ++ b ∷ []) i c
          final q = record {
            entry = t.entry;
            listed = Contains-append_right fs (b ∷ []) t.entry (listed_head b t.entry [] q);
            is_at = at_grown keeps image p g h grown (runs_of image p) i t.entry c (subst (IsEntry g image p) q z) t.is_at;
          }

          second : (a ≡ t.entry) ⊎ Contains (b ∷ []) t.entry → IsAtSome (entry_view h) (runs_of image p) (fs ++ b ∷ []) i c
          second (inl q) = first (Contains-append_right es (a ∷ []) t.entry (listed_head a t.entry [] q))
          second (inr m) = elim (listed_cases b t.entry [] m) [ inl q ↦ final q | inr n ↦ absurd (listed_none t.entry n) ]

          from_listed : Contains es t.entry ⊎ Contains (a ∷ b ∷ []) t.entry → IsAtSome (entry_view h) (runs_of image p) (fs ++ b ∷ []) i c
          from_listed (inl m) = first (Contains-append_left es (a ∷ []) t.entry m)
          from_listed (inr m) = second (listed_cases a t.entry (b ∷ []) m)

  -- where nothing was pending and a point of the plan is noted, the purse has grown
  pub has_grown : (before after : List ReachedPoint) (key : Point) → AreAllFound p before [] → AddsPassed image p before after → key.side ≡ p.side → key.kinds ≡ p.kinds → Contains (points_of after) key → length before < length after
  has_grown before after key all adds side kinds c = by_case (Contains-append_cases before adds.added r.0 (subst (λ (l : List ReachedPoint). Contains l r.0) adds.after r.1))
    where
      r : (x : ReachedPoint) × Contains after x × (x.point ≡ key)
      r = point_listed after key c

      by_case : Contains before r.0 ⊎ Contains adds.added r.0 → length before < length after
      by_case (inl d) =
          let f = all r.0 d (ap (λ (y : Point). y.side) r.2 ∙ side) (ap (λ (y : Point). y.kinds) r.2 ∙ kinds) in
          absurd (listed_none f.entry f.listed)
      by_case (inr d) =
          let n : length after ≡ length before + length adds.added = ap length adds.after ∙ length-append before adds.added in
          let m = d.1 in
          omega arith

  pub never_less : (old new : List ReachedPoint) → AddsPassed image p old new → length old ≤ length new
  never_less old new adds = let n : length new ≡ length old + length adds.added = ap length adds.after ∙ length-append old adds.added in omega arith

  -- a graph that stays where the purse does, of two puts
  pub still_both : (g k : Terms) (before mid after : List ReachedPoint) → AddsPassed image p mid after → length before < length mid → length after ≡ length before → k ≡ g
  still_both g k before mid after adds less same = let n = never_less mid after adds in absurd (omega arith)

  -- what is put among entries that were grown carries them on
  pub put_carries : (keeps : GrowthKeepsStates) (f g h : Terms) (grown : Grown f g) (before after : List ReachedPoint) (es ns fs : List Entry) → ((e : Entry) → Contains es e → IsEntry f image p e) → ArePut image p g h before after es ns fs
      → Carries (runs_of image p) (entry_view f) es (entry_view h) fs
  put_carries keeps f g h grown before after es ns fs each put i a c come t =
      let u = carries_grown keeps image p f g grown (runs_of image p) es each i a c come t in
      put.carries i a c come (record { entry = u.entry; listed = Contains-append_left es ns u.entry u.listed; is_at = u.is_at })

pub none_alone : (es : List Entry) (key : Point) → es ≡ [] → All (λ (f : Entry). f.key ≢ key) es
none_alone es key none = subst (λ (l : List Entry). All (λ (f : Entry). f.key ≢ key) l) (sym none) (λ k d less. absurd (omega arith))

pub adds_nil : (image : Image) (p : Plan) (reached : List ReachedPoint) → AddsPassed image p reached reached
adds_nil image p reached = record { added = []; after = sym (append-nil reached); passed = λ x c. absurd (listed_none x c) }

-- one request state

module _ (laws : HeldLaws) (grow : DialoguesGrowAtTheEnd) (keeps : GrowthKeepsStates) (image : Image) (k : Kind) (o p : Plan) (same : p ≡ longer_plan o k) where
  begin_comes : (i : Assignment) (b : Chip) → Begins (runs_of image p) i b → Comes (runs_of image p) i b
  begin_comes i b h = record { start = b; begins = h; leads = (0, refl) }

  -- what was put of a request state serves it
  pub given_served : (f g h : Terms) (grown : Grown f g) (q : Request) (ns : List Entry) (before after : List ReachedPoint) (es fs : List Entry) → IsRequest f o q → IsAsked f image o q → AreGiven g image o k q ns
      → ArePut image p g h before after es ns fs → IsServed f h image p after fs q
  given_served f g h grown q ns before after es fs x asked are put = record {
    at = λ i a e b begins.
        let t = given_some laws grow image o k g q ns are asks i a (grown.bit_values i q.cond x.cond ∙ e) b (subst (λ (n : Plan). Begins (runs_of image n) i b) same begins) in
        put.carries i a b (begin_comes i b begins)
        (subst (λ (n : Plan). IsAtSome (entry_view g) (runs_of image n) (es ++ ns) i b) (sym same)
        (record { entry = t.entry; listed = Contains-append_right es ns t.entry t.listed; is_at = t.is_at }));
    noted = subst (λ (n : Plan). IsPlaceNoted n q.state after) (sym same) (given_noted laws grow image o k g q ns are asks after put.noted);
  }
    where
      asks : IsAsked g image o q
      asks = asked_grown keeps image o f g grown q x asked

  pub given_entries : (g : Terms) (q : Request) (a : Arrivals) → AreGiven g image o k q (list_of a) → each_of (IsEntry g image p) a
  given_entries g q a are = each_from (IsEntry g image p) a (λ n c. subst (λ (m : Plan). IsEntry g image m n) (sym same) (are.each n c))

  pub given_sounds : (f g : Terms) (grown : Grown f g) (q : Request) (a : Arrivals) → IsRequest f o q → IsAsked f image o q → AreGiven g image o k q (list_of a) → each_of (IsSound (entry_view g) (runs_of image p)) a
  given_sounds f g grown q a x asked are =
      each_from (IsSound (entry_view g) (runs_of image p)) a
      (λ n c. subst (λ (m : Plan). IsSound (entry_view g) (runs_of image m) n) (sym same) (given_sound laws grow image o k g q n (are.follow n c) (asked_grown keeps image o f g grown q x asked)))

-- the loop over the request states

module _ (laws : HeldLaws) (grow : DialoguesGrowAtTheEnd) (kinds_law : DialoguesAreOfTheirKinds) (keeps : GrowthKeepsStates) (image : Image) (k : Kind) (l : Requests) (p : Plan) (same : p ≡ longer_plan l.plan k) where
  begins_come : (i : Assignment) (b : Chip) → Begins (runs_of image p) i b → Comes (runs_of image p) i b
  begins_come i b h = record { start = b; begins = h; leads = (0, refl) }

  pub served_none : (g : Terms) (before : List ReachedPoint) → All (IsOfOther p) before → AreServed g g image p l before before 0 []
  served_none g before other = record {
    grown = grown_same g;
    pending = record {
      each = λ e c. absurd (listed_none e c);
      apart = tt;
      sound = λ e c. absurd (listed_none e c);
      known = λ e c. absurd (listed_none e c);
    };
    found = λ x c side kinds. absurd (from_all (IsOfOther p) before x other c side kinds);
    served = λ q c. absurd (listed_none q c);
    passed = record { added = []; after = sym (append-nil before); passed = λ x c. absurd (listed_none x c) };
    count = omega arith;
    adds = adds_none g 0 0;
    begun = λ e. refl;
  }

  noted_kept : (s : SymState) (old new : List ReachedPoint) → AddsPassed image p old new → IsPlaceNoted p s old → IsPlaceNoted p s new
  noted_kept s old new adds n = record {
    point = n.point;
    listed = subst (λ (rs : List ReachedPoint). Contains rs n.point) (sym adds.after) (Contains-append_left old adds.added n.point n.listed);
    side = n.side;
    kinds = n.kinds;
    pc = n.pc;
    sp = n.sp;
    stack = n.stack;
  }

  pub served_more : (f g h : Terms) (before mid after : List ReachedPoint) (j : ℕ) (q : Request) (es fs : List Entry) → IsLayer f image l → slice_get l.requests j ≡ Some q
      → AreServed f g image p l before mid j es
      → Grown g h → ArePending h image p after fs → AreAllFound p after fs → IsServed g h image p after fs q
      → Carries (runs_of image p) (entry_view g) es (entry_view h) fs
      → length mid + found_in fs ≤ length after + found_in es → AddsPassed image p mid after → AddsAtMost g h 621 10260
      → AreServed f h image p l before after (j + 1) fs
  served_more f g h before mid after j q es fs layer here so grown pending found this carries count adds heavier = record {
    grown = so.grown ▸ grown;
    pending = pending;
    found = found;
    served = λ r c. by_case r (Contains-push_cases (take j l.requests) q r (subst (λ (qs : List Request). Contains qs r) more c));
    passed = adds_passed image p before mid after so.passed adds;
    count = let n = so.count in omega arith;
    adds = let n = so.adds.longer_by in let m = so.adds.heavier_by in let o = heavier.longer_by in let r = heavier.heavier_by in record { longer_by = omega arith; heavier_by = omega arith };
    begun = λ e. absurd (let n = e in omega arith);
  }
    where
      more : take (j + 1) l.requests ≡ take j l.requests ++ q ∷ []
      more = take_more l.requests j q (slice_get_within l.requests j q here) ∙ ap (λ (r : Request). take j l.requests ++ r ∷ []) (get_or_from_slice_get l.requests j q q here)

      listed : Contains l.requests q
      listed = (j, slice_get_within l.requests j q here, get_or_from_slice_get l.requests j q q here)

      old : (r : Request) → Contains (take j l.requests) r → IsServed f h image p after fs r
      old r c =
          let s = so.served r c in
          record {
            at = λ i a e b begins. carries i a b (begins_come i b begins) (s.at i a e b begins);
            noted = noted_kept r.state mid after adds s.noted;
          }

      by_case : (r : Request) → Contains (take j l.requests) r ⊎ (q ≡ r) → IsServed f h image p after fs r
      by_case r (inl c) = old r c
      by_case r (inr e) =
          subst (IsServed f h image p after fs) e (record {
            at = λ i a t. this.at i a (so.grown.bit_values i q.cond (layer.each q listed).cond ∙ t);
            noted = this.noted;
          })

  -- after the last, each chip to which a held run comes is one to which an entry leads
  pub served_covers : (f g : Terms) (before after : List ReachedPoint) (es : List Entry) (n : ℕ) → n ≡ length l.requests → IsLayer f image l → AreServed f g image p l before after n es
      → Covered (entry_view g) (runs_of image p) es (λ (i : Assignment) (c : Chip). ⊥)
  served_covers f g before after es n all layer so i a c come = inr (record { at = come.start; comes = begins_come i come.start come.begins; some = some; leads = come.leads })
    where
      d : (b : Chip) × Asks (runs_of image l.plan) i b × (applied image (event.Host (next_access l.plan k i)) b ≡ come.start)
      d = begins_at laws grow image l.plan k i come.start (subst (λ (n : Plan). Begins (runs_of image n) i come.start) same come.begins)

      some : IsAtSome (entry_view g) (runs_of image p) es i come.start
      some =
          let t = layer.requests.complete i a d.0 d.1 in
          let whole : take n l.requests ≡ l.requests = take_all n l.requests (let e = all in omega arith) in
          (so.served t.entry (subst (λ (qs : List Request). Contains qs t.entry) (sym whole) t.listed)).at i a t.is_at.holds come.start come.begins

  -- as many as twice the points that were added
  pub served_few : DifferentValuesAreNoMore Shown → (f g : Terms) (before after : List ReachedPoint) (es : List Entry) (j : ℕ) → j ≤ length l.requests → IsLayer f image l → All (IsOfOther p) before
      → (so : AreServed f g image p l before after j es) → j ≤ 2 * length so.passed.added
  served_few no_more f g before after es j most layer other so =
      let n = length-take-le j l.requests most in
      let m = served_count no_more p (take j l.requests) before after so.passed.added so.passed.after other (first_pairs j l.requests most layer.apart) (λ q c. ((layer.each q (within q c)).stands, (so.served q c).noted)) in
      omega arith
    where
      within : (q : Request) → Contains (take j l.requests) q → Contains l.requests q
      within q c = (c.0, inside, sym (get_or-take j l.requests c.0 q less) ∙ c.2)
        where
          less : c.0 < j
          less = let n = length-take-le j l.requests most in let m = c.1 in omega arith

          inside : c.0 < length l.requests
          inside = let m = less in omega arith

  -- a layer with a request state has a point that is known
  pub some_known : (f : Terms) (reached : List ReachedPoint) → IsLayer f image l → Knows image l.plan reached → 0 < length l.requests → 1 ≤ length reached
  some_known f reached layer knows some = by_list l.requests refl
    where
      by_list : (qs : List Request) → l.requests ≡ qs → 1 ≤ length reached
      by_list [] e = absurd (let n = ap length e in omega arith)
      by_list (q ∷ qs) e =
          let c : Contains l.requests q = subst (λ (rs : List Request). Contains rs q) (sym e) (listed_head q q qs refl) in
          let r = layer.each q c in
          let t = layer.requests.sound q c q.inputs r.assignment r.reached in
          let come = asks_comes laws (runs_of image l.plan) q.inputs t.0 t.1 in
          let talk = talks laws kinds_law keeps image l.plan in
          let passes = comes_passes laws (runs_of image l.plan) q.inputs t.0 (talk.transfers q.inputs) (talk.kinds q.inputs) come in
          let d = knows l.plan.kinds [] (sym (append-nil l.plan.kinds)) q.inputs r.assignment (point_in (runs_of image l.plan) t.0) passes in
          let x = point_listed reached (point_in (runs_of image l.plan) t.0) d in
          let less = x.1.1 in
          omega arith

  -- how far the graph has grown where a transfer failed
  pub fault_after : DifferentValuesAreNoMore Shown → (f g h : Terms) (before mid after : List ReachedPoint) (es : List Entry) (j : ℕ) → j < length l.requests → IsLayer f image l → All (IsOfOther p) before → Knows image l.plan before
      → IsWithin f l.plan.power (length before) 4000 260000 → AreServed f g image p l before mid j es → AddsPassed image p mid after → AddsAtMost g h 621 10260
      → (es ≡ [] → length after ≡ length mid → AddsAtMost g h 19 258) → IsWithin h l.plan.power (length after) 4096 262144
  fault_after no_more f g h before mid after es j less layer other knows within so adds heavier still = by_case (cases_lt (length before) (length after))
    where
      first : length mid ≡ length before + length so.passed.added
      first = adds_length image p before mid so.passed

      second : length after ≡ length mid + length adds.added
      second = adds_length image p mid after adds

      times : j ≤ 2 * length so.passed.added
      times = served_few no_more f g before mid es j (omega (arith, less)) layer other so

      by_case : (length before < length after) ⊎ (length after ≤ length before) → IsWithin h l.plan.power (length after) 4096 262144
      by_case (inl more) =
          let a = first in
          let b = second in
          let t = times in
          let total : length before + (length so.passed.added + length adds.added) ≡ length after = omega arith in
          subst (λ (n : ℕ). IsWithin h l.plan.power n 4096 262144) total
          (fault_within f h l.plan.power (length before) (length so.passed.added + length adds.added) j within (adds_on (621 * j) 621 (10260 * j) 10260 so.adds heavier) (omega arith) (omega arith))
      by_case (inr up) =
          let a = first in
          let b = second in
          let t = times in
          let none : j ≡ 0 = omega arith in
          let same : length after ≡ length mid = omega arith in
          let all : length before ≡ length after = omega arith in
          let light = still (so.begun none) same in
          let few : AddsAtMost f g 0 0 = subst (λ (n : ℕ). AddsAtMost f g (621 * n) (10260 * n)) none so.adds in
          subst (λ (n : ℕ). IsWithin h l.plan.power n 4096 262144) all
          (early_within f h l.plan.power (length before) within (adds_on 0 19 0 258 few light) (some_known f before layer knows (omega (arith, less))))

  pub room_for : DifferentValuesAreNoMore Shown → (f g : Terms) (before mid : List ReachedPoint) (es : List Entry) (j points : ℕ) → j < length l.requests → IsLayer f image l → All (IsOfOther p) before
      → IsWithin f l.plan.power (length before) 4000 260000 → AreServed f g image p l before mid j es → length mid ≤ points → points ≤ 8192 → length g.nodes + 621 ≤ 2 ^ 31
  room_for no_more f g before mid es j points less layer other within so most few =
      let a = adds_length image p before mid so.passed in
      let t = served_few no_more f g before mid es j (omega (arith, less)) layer other so in
      transfer_room f g l.plan.power (length before) (length mid) points j within so.adds (omega arith) most few (omega arith)

  pub all_grow : DifferentValuesAreNoMore Shown → (f g : Terms) (before after : List ReachedPoint) (es : List Entry) (j : ℕ) → j ≤ length l.requests → IsLayer f image l → All (IsOfOther p) before
      → (so : AreServed f g image p l before after j es) → GrowsByPoints f g (length before) (length after) 1242 20520
  all_grow no_more f g before after es j most layer other so =
      all_grows f g (length before) (length after) (length so.passed.added) j (adds_length image p before after so.passed) so.adds (served_few no_more f g before after es j most layer other so)
