-- A search has one outcome.
use Rattle.std.proofs.Common.{◌≡◌, ℕ, zero, suc, ◌<◌, ◌≤◌, ◌⊎◌, inl, inr, List, [], ◌∷◌, ◌++◌, length, take, Some, refl, sym, ◌∙◌, ap, subst, arith}
use Rattle.std.specs.List.{slice_get}
use Rattle.std.proofs.lemmas.Option.{slice_get_within}
use Rattle.wb_gate.specs.declared.gates.Lit.{Lit}
use Rattle.wb_gate.specs.Circuit.{Circuit}
use Rattle.wb_gate.specs.Clauses.{clauses_of}
use Rattle.wb_derive.specs.Partial.{Partial, nothing}
use Rattle.wb_solve.specs.Descent.{Ended, Conflict, Values}
use Rattle.wb_solve.specs.Search.{EndsNext, AreSteps, NoneEmpty, Outcome, Satisfied, Refuted, Stopped, IsOutcome}
use Rattle.wb_solve.specs.Laws.{OutcomesAreOne}
use Rattle.wb_solve.proofs.Orders.{one_end, some_order}

ends_one : (c : Circuit) (steps : List (List Lit)) (end other : Ended) → EndsNext c steps end → EndsNext c steps other → end ≡ other
ends_one c steps end other first second =
    let known = clauses_of c ++ steps in
    one_end c.inputs known end other nothing [] (some_order c.inputs known end nothing [] first) (some_order c.inputs known other nothing [] second)

conflict_one : (clause other : List Lit) → Conflict clause ≡ Conflict other → clause ≡ other
conflict_one clause other e = cc

values_one : (p q : Partial) → Values p ≡ Values q → p ≡ q
values_one p q e = cc

differ : (clause : List Lit) (p : Partial) → Conflict clause ≡ Values p → ⊥
differ clause p e = cc

pub get_within : (steps : List (List Lit)) (k : ℕ) → k < length steps → (clause : List Lit) × (slice_get steps k ≡ Some clause)
get_within [] k h = absurd (omega arith)
get_within (x ∷ xs) zero h = (x, refl)
get_within (x ∷ xs) (suc k) h = get_within xs k (omega arith)

take_suc : (steps : List (List Lit)) (k : ℕ) (clause : List Lit) → slice_get steps k ≡ Some clause → take (suc k) steps ≡ take k steps ++ (clause ∷ [])
take_suc [] k clause e = absurd (cc)
take_suc (x ∷ xs) zero clause e = let same : x ≡ clause = cc in ap (λ y. y ∷ []) same
take_suc (x ∷ xs) (suc k) clause e = ap (λ ys. x ∷ ys) (take_suc xs k clause e)

-- two lists of steps are the same as far as both go
same_front : (c : Circuit) (steps others : List (List Lit)) → AreSteps c steps → AreSteps c others → (k : ℕ) → k ≤ length steps → k ≤ length others → take k steps ≡ take k others
same_front c steps others are also zero h i = refl
same_front c steps others are also (suc k) h i =
    let one = get_within steps k (omega arith) in
    let two = get_within others k (omega arith) in
    let before = same_front c steps others are also k (omega arith) (omega arith) in
    let end = subst (λ front. EndsNext c front (Conflict one.0)) before (are.descents k one.0 one.1) in
    let same = conflict_one one.0 two.0 (ends_one c (take k others) (Conflict one.0) (Conflict two.0) end (also.descents k two.0 two.1)) in
    take_suc steps k one.0 one.1 ∙ ap (λ front. front ++ (one.0 ∷ [])) before ∙ ap (λ clause. take k others ++ (clause ∷ [])) same ∙ sym (take_suc others k two.0 two.1)

take_whole : (xs : List (List Lit)) → take (length xs) xs ≡ xs
take_whole [] = refl
take_whole (x ∷ xs) = ap (λ ys. x ∷ ys) (take_whole xs)

get_front : (xs : List (List Lit)) (j k : ℕ) → j < k → slice_get (take k xs) j ≡ slice_get xs j
get_front xs j zero h = absurd (omega arith)
get_front [] j (suc k) h = refl
get_front (x ∷ xs) zero (suc k) h = refl
get_front (x ∷ xs) (suc j) (suc k) h = get_front xs j k (omega arith)

-- the step at a place where both have one is the same
same_step : (c : Circuit) (steps others : List (List Lit)) → AreSteps c steps → AreSteps c others → (k : ℕ) → k < length steps → k < length others → slice_get steps k ≡ slice_get others k
same_step c steps others are also k h i =
    sym (get_front steps k (suc k) (omega arith))
    ∙ ap (λ front. slice_get front k) (same_front c steps others are also (suc k) (omega arith) (omega arith))
    ∙ get_front others k (suc k) (omega arith)

-- steps of the same length are the same
same_steps : (c : Circuit) (steps others : List (List Lit)) → AreSteps c steps → AreSteps c others → length steps ≡ length others → steps ≡ others
same_steps c steps others are also e =
    sym (take_whole steps)
    ∙ same_front c steps others are also (length steps) (omega arith) (omega arith)
    ∙ ap (λ n. take n others) e ∙ take_whole others

-- where the next descent after these steps ends otherwise, other steps don't go further
no_further : (c : Circuit) (steps others : List (List Lit)) (end : Ended) → AreSteps c steps → AreSteps c others → EndsNext c steps end → length steps < length others → (clause : List Lit) × (slice_get others (length steps) ≡ Some clause) × (end ≡ Conflict clause)
no_further c steps others end are also next h =
    let found = get_within others (length steps) h in
    let front : take (length steps) others ≡ steps = sym (same_front c steps others are also (length steps) (omega arith) (omega arith)) ∙ take_whole steps in
    let there = subst (λ ys. EndsNext c ys (Conflict found.0)) front (also.descents (length steps) found.0 found.1) in
    (found.0, found.1, ends_one c steps end (Conflict found.0) next there)

trichotomy : (x y : ℕ) → (x ≡ y) ⊎ (x < y) ⊎ (y < x)
trichotomy x y = grind arith

-- the empty step is the last, and none that has only filled steps goes past it
not_past : (c : Circuit) (steps others : List (List Lit)) (place : ℕ) → AreSteps c steps → AreSteps c others → slice_get steps place ≡ Some [] → NoneEmpty others → place < length others → ⊥
not_past c steps others place are also empty filled h =
    let inside = slice_get_within steps place [] empty in
    filled place [] (sym (same_step c steps others are also place inside h) ∙ empty) refl

both_satisfied : (c : Circuit) (limit : ℕ) (p q : Partial) → IsOutcome c limit (Satisfied p) → IsOutcome c limit (Satisfied q) → Satisfied p ≡ Satisfied q
both_satisfied c limit p q one two = by (trichotomy (length one.0) (length two.0))
  where
    by : (length one.0 ≡ length two.0) ⊎ (length one.0 < length two.0) ⊎ (length two.0 < length one.0) → Satisfied p ≡ Satisfied q
    by (inl e) =
        let same = same_steps c one.0 two.0 one.1 two.1 e in
        let there = subst (λ steps. EndsNext c steps (Values p)) same one.4 in
        ap (λ (r : Partial). Satisfied r) (values_one p q (ends_one c two.0 (Values p) (Values q) there two.4))
    by (inr (inl h)) = let next = no_further c one.0 two.0 (Values p) one.1 two.1 one.4 h in absurd (differ next.0 p (sym next.2))
    by (inr (inr h)) = let next = no_further c two.0 one.0 (Values q) two.1 one.1 two.4 h in absurd (differ next.0 q (sym next.2))

satisfied_refuted : (c : Circuit) (limit : ℕ) (p : Partial) (steps : List (List Lit)) → IsOutcome c limit (Satisfied p) → IsOutcome c limit (Refuted steps) → ⊥
satisfied_refuted c limit p steps one two = by (split (length one.0) (length steps))
  where
    split : (a b : ℕ) → (a < b) ⊎ (b ≤ a)
    split a b = grind arith

    by : (length one.0 < length steps) ⊎ (length steps ≤ length one.0) → ⊥
    by (inl h) = let next = no_further c one.0 steps (Values p) one.1 two.0 one.4 h in differ next.0 p (sym next.2)
    by (inr h) = not_past c steps one.0 two.2.0 two.0 one.1 two.2.2 one.2 (omega (arith, two.2.1))

satisfied_stopped : (c : Circuit) (limit : ℕ) (p : Partial) (steps : List (List Lit)) → IsOutcome c limit (Satisfied p) → IsOutcome c limit (Stopped steps) → ⊥
satisfied_stopped c limit p steps one two = by (split (length one.0) (length steps))
  where
    split : (a b : ℕ) → (a < b) ⊎ (b ≤ a)
    split a b = grind arith

    by : (length one.0 < length steps) ⊎ (length steps ≤ length one.0) → ⊥
    by (inl h) = let next = no_further c one.0 steps (Values p) one.1 two.0 one.4 h in differ next.0 p (sym next.2)
    by (inr h) =
        let same = same_steps c one.0 steps one.1 two.0 (omega (arith, one.3, two.2)) in
        let there = subst (λ ys. EndsNext c ys (Values p)) same one.4 in
        differ two.3.0 p (sym (ends_one c steps (Values p) (Conflict two.3.0) there two.3.2))

both_refuted : (c : Circuit) (limit : ℕ) (steps others : List (List Lit)) → IsOutcome c limit (Refuted steps) → IsOutcome c limit (Refuted others) → Refuted steps ≡ Refuted others
both_refuted c limit steps others one two = by (trichotomy (length steps) (length others))
  where
    by : (length steps ≡ length others) ⊎ (length steps < length others) ⊎ (length others < length steps) → Refuted steps ≡ Refuted others
    by (inl e) = ap (λ (ys : List (List Lit)). Refuted ys) (same_steps c steps others one.0 two.0 e)
    by (inr (inl h)) =
        let there = sym (same_step c steps others one.0 two.0 one.2.0 (omega (arith, one.2.1)) (omega (arith, one.2.1))) ∙ one.2.2 in
        absurd (two.0.goes_on one.2.0 [] (omega (arith, one.2.1)) there refl)
    by (inr (inr h)) =
        let there = sym (same_step c others steps two.0 one.0 two.2.0 (omega (arith, two.2.1)) (omega (arith, two.2.1))) ∙ two.2.2 in
        absurd (one.0.goes_on two.2.0 [] (omega (arith, two.2.1)) there refl)

refuted_stopped : (c : Circuit) (limit : ℕ) (steps others : List (List Lit)) → IsOutcome c limit (Refuted steps) → IsOutcome c limit (Stopped others) → ⊥
refuted_stopped c limit steps others one two = by (split (length others) (length steps))
  where
    split : (a b : ℕ) → (a < b) ⊎ (b ≤ a)
    split a b = grind arith

    by : (length others < length steps) ⊎ (length steps ≤ length others) → ⊥
    by (inl h) =
        let next = no_further c others steps (Conflict two.3.0) two.0 one.0 two.3.2 h in
        let last : length others ≡ one.2.0 = omega (arith, one.1, one.2.1, two.2) in
        let at : slice_get steps (length others) ≡ Some [] = ap (slice_get steps) last ∙ one.2.2 in
        let empty : next.0 ≡ [] = some_one next.0 [] (sym next.1 ∙ at) in
        two.3.1 (conflict_one two.3.0 next.0 next.2 ∙ empty)
      where
        some_one : (a b : List Lit) → Some a ≡ Some b → a ≡ b
        some_one a b e = cc
    by (inr h) = not_past c steps others one.2.0 one.0 two.0 one.2.2 two.1 (omega (arith, one.2.1))

both_stopped : (c : Circuit) (limit : ℕ) (steps others : List (List Lit)) → IsOutcome c limit (Stopped steps) → IsOutcome c limit (Stopped others) → Stopped steps ≡ Stopped others
both_stopped c limit steps others one two =
    ap (λ (ys : List (List Lit)). Stopped ys) (same_steps c steps others one.0 two.0 (one.2 ∙ sym two.2))

outcome_one : (c : Circuit) (limit : ℕ) (outcome other : Outcome) → IsOutcome c limit outcome → IsOutcome c limit other → outcome ≡ other
outcome_one c limit (Satisfied p) (Satisfied q) one two = both_satisfied c limit p q one two
outcome_one c limit (Satisfied p) (Refuted steps) one two = absurd (satisfied_refuted c limit p steps one two)
outcome_one c limit (Satisfied p) (Stopped steps) one two = absurd (satisfied_stopped c limit p steps one two)
outcome_one c limit (Refuted steps) (Satisfied p) one two = absurd (satisfied_refuted c limit p steps two one)
outcome_one c limit (Refuted steps) (Refuted others) one two = both_refuted c limit steps others one two
outcome_one c limit (Refuted steps) (Stopped others) one two = absurd (refuted_stopped c limit steps others one two)
outcome_one c limit (Stopped steps) (Satisfied p) one two = absurd (satisfied_stopped c limit p steps two one)
outcome_one c limit (Stopped steps) (Refuted others) one two = absurd (refuted_stopped c limit others steps two one)
outcome_one c limit (Stopped steps) (Stopped others) one two = both_stopped c limit steps others one two

pub outcomes_are_one : OutcomesAreOne
outcomes_are_one = record { one = outcome_one }
