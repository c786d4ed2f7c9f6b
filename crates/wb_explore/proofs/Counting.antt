-- Request states are at most twice as many as the points that a transfer adds.
use Rattle.std.proofs.Common.{◌≡◌, ◌≢◌, ℕ, zero, suc, ◌+◌, ◌*◌, ◌<◌, ◌≤◌, Bool, true, false, List, [], ◌∷◌, ◌++◌, ◌⊎◌, inl, inr, length, take, map, flat_map, slice_index_or, refl, sym, ap, subst, ◌∙◌, arith}
use Rattle.std.specs.Prelude.{Contains, All, AllPairs}
use Rattle.std.proofs.lemmas.List.{length-map, get_or-map, get_or-take, length-take-le, get_or_default}
use Rattle.std.proofs.lemmas.List.Elements.{Contains-append_left, Contains-append_right, Contains-append_cases}
use Rattle.wb_port.specs.declared.points.Shown.{Shown}
use Rattle.wb_law.specs.Values.{DifferentValuesAreNoMore}
use Rattle.wb_symstep.specs.declared.state.SymState.{SymState}
use Rattle.wb_point.specs.Shows.{shows}
use Rattle.wb_explore.specs.declared.plan.Plan.{Plan}
use Rattle.wb_explore.specs.declared.layer.Request.{Request}
use Rattle.wb_explore.specs.declared.reached.ReachedPoint.{ReachedPoint}
use Rattle.wb_explore.specs.Layers.{AddsPassed}
use Rattle.wb_explore.specs.Explored.{IsOfOther}
use Rattle.wb_explore.specs.Transfers.{IsPlaceNoted}
use Rattle.wb_explore.proofs.Lists.{listed_head, listed_tail, listed_cases, listed_none, from_all}

-- what request states may have shown before the transfer to which a point belongs
before_of : ReachedPoint → Bool → Shown
before_of x drs = record { pc = x.point.pc; sp = x.point.sp; stack = x.point.stack; rqm = true; drs = drs }

all_before : List ReachedPoint → List Shown
all_before [] = []
all_before (x ∷ xs) = before_of x false ∷ before_of x true ∷ all_before xs

before_count : (xs : List ReachedPoint) → length (all_before xs) ≡ 2 * length xs
unfolding all_before
before_count [] = refl
before_count (x ∷ xs) = let n = before_count xs in omega arith

before_listed : (xs : List ReachedPoint) (x : ReachedPoint) (drs : Bool) → Contains xs x → Contains (all_before xs) (before_of x drs)
unfolding all_before
before_listed [] x drs c = absurd (listed_none x c)
before_listed (y ∷ xs) x drs c = by_case (before_listed xs x drs) (listed_cases y x xs c)
  where
    here : (b : Bool) → y ≡ x → Contains (before_of y false ∷ before_of y true ∷ all_before xs) (before_of x b)
    here false e = listed_head (before_of y false) (before_of x false) (before_of y true ∷ all_before xs) (ap (λ (r : ReachedPoint). before_of r false) e)
    here true e = listed_tail (before_of y false) (before_of x true) (before_of y true ∷ all_before xs) (listed_head (before_of y true) (before_of x true) (all_before xs) (ap (λ (r : ReachedPoint). before_of r true) e))

    by_case : (Contains xs x → Contains (all_before xs) (before_of x drs)) → (y ≡ x) ⊎ Contains xs x → Contains (before_of y false ∷ before_of y true ∷ all_before xs) (before_of x drs)
    by_case ih (inl e) = here drs e
    by_case ih (inr d) = listed_tail (before_of y false) (before_of x drs) (before_of y true ∷ all_before xs) (listed_tail (before_of y true) (before_of x drs) (all_before xs) (ih d))

-- pairs of a mapped list

map_pairs : {X Y : Type 0} (f : X → Y) (R : Y → Y → Type 0) (xs : List X) → AllPairs (λ a b. R (f a) (f b)) xs → AllPairs R (map f xs)
map_pairs f R [] h i j d less within = absurd (omega arith)
map_pairs {X} {Y} f R (x ∷ xs) h i j d less within =
    let n : length (map f (x ∷ xs)) ≡ length (x ∷ xs) = length-map (x ∷ xs) f in
    let inside : j < length (x ∷ xs) = subst (λ (m : ℕ). j < m) n within in
    let first : i < length (x ∷ xs) = omega (arith, less, inside) in
    subst (λ (y : Y). R y (slice_index_or (map f (x ∷ xs)) j d)) (sym (get_or-map f (x ∷ xs) i x d first))
    (subst (λ (y : Y). R (f (slice_index_or (x ∷ xs) i x)) y) (sym (get_or-map f (x ∷ xs) j x d inside)) (h i j x less inside))

take_pairs : {X : Type 0} (R : X → X → Type 0) (n : ℕ) (xs : List X) → n ≤ length xs → AllPairs R xs → AllPairs R (take n xs)
take_pairs {X} R n xs most h i j d less within =
    let long = length-take-le n xs most in
    let inside : j < n = omega (arith, within, long) in
    subst (λ (y : X). R y (slice_index_or (take n xs) j d)) (sym (get_or-take n xs i d (omega (arith, less, inside))))
    (subst (λ (y : X). R (slice_index_or xs i d) y) (sym (get_or-take n xs j d inside)) (h i j d less (omega (arith, inside, most))))

-- a place that is noted belongs to a point that was added

pub noted_added : (p : Plan) (s : SymState) (before added : List ReachedPoint) → All (IsOfOther p) before → (n : IsPlaceNoted p s (before ++ added)) → Contains added n.point
noted_added p s before added other n = elim (Contains-append_cases before added n.point n.listed) [ inl c ↦ absurd (from_all (IsOfOther p) before n.point other c n.side n.kinds) | inr c ↦ c ]

abbrev shown_with : Bool → ℕ → ℕ → List ℕ → Bool → Shown
shown_with drs pc sp stack rqm = record { pc = pc; sp = sp; stack = stack; rqm = rqm; drs = drs }

shown_before : (p : Plan) (s : SymState) (reached : List ReachedPoint) → s.rqm ≡ true → (n : IsPlaceNoted p s reached) → shows s ≡ before_of n.point s.drs
unfolding before_of
shown_before p s reached stands n =
    ap (λ (x : ℕ). shown_with s.drs x s.sp s.stack s.rqm) (sym n.pc)
    ∙ (ap (λ (x : ℕ). shown_with s.drs n.point.point.pc x s.stack s.rqm) (sym n.sp)
    ∙ (ap (λ (x : List ℕ). shown_with s.drs n.point.point.pc n.point.point.sp x s.rqm) (sym n.stack)
    ∙ ap (λ (x : Bool). shown_with s.drs n.point.point.pc n.point.point.sp n.point.point.stack x) stands))

each_listed : (ys : List Shown) (qs : List Request) → ((q : Request) → Contains qs q → Contains ys (shows q.state)) → All (Contains ys) (map (λ (q : Request). shows q.state) qs)
each_listed ys [] h k d less = absurd (omega arith)
each_listed ys (q ∷ qs) h k d less =
    let n : length (map (λ (r : Request). shows r.state) (q ∷ qs)) ≡ length (q ∷ qs) = length-map (q ∷ qs) (λ (r : Request). shows r.state) in
    let inside : k < length (q ∷ qs) = subst (λ (m : ℕ). k < m) n less in
    let here : Request = slice_index_or (q ∷ qs) k q in
    subst (Contains ys) (sym (get_or-map (λ (r : Request). shows r.state) (q ∷ qs) k q d inside))
    (h here (k, inside, get_or_default (q ∷ qs) k here q inside))

-- request states apart, whose places are noted among points that were added, are at most twice as many as these
pub served_count : DifferentValuesAreNoMore Shown → (p : Plan) (qs : List Request) (before after added : List ReachedPoint) → after ≡ before ++ added → All (IsOfOther p) before
    → AllPairs (λ (a b : Request). shows a.state ≢ shows b.state) qs
    → ((q : Request) → Contains qs q → (q.state.rqm ≡ true) × IsPlaceNoted p q.state after)
    → length qs ≤ 2 * length added
served_count no_more p qs before after added parts other apart each =
    let all = no_more (map (λ (q : Request). shows q.state) qs) (all_before added) (map_pairs (λ (q : Request). shows q.state) (λ (a b : Shown). a ≢ b) qs apart) (each_listed (all_before added) qs listed) in
    let n : length (map (λ (q : Request). shows q.state) qs) ≡ length qs = length-map qs (λ (q : Request). shows q.state) in
    let m = before_count added in
    omega arith
  where
    listed : (q : Request) → Contains qs q → Contains (all_before added) (shows q.state)
    listed q c =
        let e = each q c in
        let n : IsPlaceNoted p q.state (before ++ added) = subst (IsPlaceNoted p q.state) parts e.1 in
        subst (Contains (all_before added)) (sym (shown_before p q.state (before ++ added) e.0 n)) (before_listed added n.point q.state.drs (noted_added p q.state before added other n))

pub first_pairs : (n : ℕ) (qs : List Request) → n ≤ length qs → AllPairs (λ (a b : Request). shows a.state ≢ shows b.state) qs → AllPairs (λ (a b : Request). shows a.state ≢ shows b.state) (take n qs)
first_pairs n qs most h = take_pairs (λ (a b : Request). shows a.state ≢ shows b.state) n qs most h
