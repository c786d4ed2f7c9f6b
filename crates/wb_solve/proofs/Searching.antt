-- A search step by step.
use Rattle.std.proofs.Common.{◌≡◌, ℕ, zero, suc, ◌+◌, ◌-◌, ◌^◌, ◌<◌, ◌≤◌, ◌⊎◌, inl, inr, Bool, true, false, nat_lt, List, [], ◌∷◌, ◌++◌, length, map, take, Option, Some, None, refl, sym, ◌∙◌, ap, subst, arith, length-append, eqb, eq-eqb}
use Rattle.std.specs.List.{slice_get}
use Rattle.std.proofs.lemmas.Bool.{eqb-true, false≢true}
use Rattle.std.proofs.lemmas.Bool.Decides.{nat_tests}
use Rattle.std.proofs.lemmas.List.{length-map, map-append}
use Rattle.std.proofs.lemmas.Option.{slice_get_within}
use Rattle.wb_gate.specs.declared.gates.Lit.{Lit}
use Rattle.wb_gate.specs.Circuit.{Circuit, IsCircuit, variables}
use Rattle.wb_gate.specs.Clauses.{clauses_of, names_only}
use Rattle.wb_derive.specs.declared.steps.Step.{Step}
use Rattle.wb_derive.specs.Lawful.{IsLawful, IsLawfulAt}
use Rattle.wb_derive.specs.Verdict.{AreLawful, EndsEmpty}
use Rattle.wb_solve.specs.Descent.{Conflict, clause_of}
use Rattle.wb_solve.specs.Search.{clauses_in, EndsNext, AreSteps, NoneEmpty, Refuted, IsOutcome}
use Rattle.wb_solve.specs.Laws.{StableValuesSatisfy}
use Rattle.wb_solve.specs.Course.{value_in, partial_of, known_to, AllBelow}
use Rattle.wb_solve.specs.Turns.{value_or_false, IsConflict, AreEndValues, IsSearching}
use Rattle.wb_solve.specs.Answers.{IsSat, IsUnsat, IsSpent}
use Rattle.wb_solve.proofs.Lists.{get_left}
use Rattle.wb_solve.proofs.Few.{step_fresh, new_step}
use Rattle.wb_solve.proofs.Few.{few as few_steps}
use Rattle.wb_solve.proofs.Few.{filled as filled_steps}

pub take_all : {X : Type 0} (xs ys : List X) → take (length xs) (xs ++ ys) ≡ xs
take_all [] [] = refl
take_all [] (y ∷ ys) = refl
take_all (x ∷ xs) ys = ap (λ zs. x ∷ zs) (take_all xs ys)

pub take_front : {X : Type 0} (xs ys : List X) (k : ℕ) → k ≤ length xs → take k (xs ++ ys) ≡ take k xs
take_front xs ys zero h = refl
take_front [] ys (suc k) h = absurd (omega arith)
take_front (x ∷ xs) ys (suc k) h = ap (λ zs. x ∷ zs) (take_front xs ys k (omega arith))

-- an element of a list with one more at its end
pub last_or_before : {X : Type 0} (xs : List X) (x : X) (k : ℕ) (y : X) → slice_get (xs ++ (x ∷ [])) k ≡ Some y → (slice_get xs k ≡ Some y) ⊎ ((k ≡ length xs) × (x ≡ y))
last_or_before [] x zero y e = inr (refl, cc)
last_or_before [] x (suc k) y e = absurd (cc)
last_or_before (z ∷ xs) x zero y e = inl e
last_or_before (z ∷ xs) x (suc k) y e = by (last_or_before xs x k y e)
  where
    by : (slice_get xs k ≡ Some y) ⊎ ((k ≡ length xs) × (x ≡ y)) → (slice_get xs k ≡ Some y) ⊎ ((suc k ≡ length (z ∷ xs)) × (x ≡ y))
    by (inl before) = inl before
    by (inr here) = let at = here.0 in inr (omega arith, here.1)

pub get_last : {X : Type 0} (xs : List X) (x : X) → slice_get (xs ++ (x ∷ [])) (length xs) ≡ Some x
get_last [] x = refl
get_last (y ∷ xs) x = get_last xs x

steps_more : (c : Circuit) (steps : List (List Lit)) (clause : List Lit) → AreSteps c steps → NoneEmpty steps → EndsNext c steps (Conflict clause) → AreSteps c (steps ++ (clause ∷ []))
steps_more c steps clause are filled next = record {
  descents = λ place other e. by place other (last_or_before steps clause place other e);
  goes_on = λ place other h e empty. before place other h empty (last_or_before steps clause place other e);
}
  where
    by : (place : ℕ) (other : List Lit) → (slice_get steps place ≡ Some other) ⊎ ((place ≡ length steps) × (clause ≡ other)) → EndsNext c (take place (steps ++ (clause ∷ []))) (Conflict other)
    by place other (inl e) =
        let inside = slice_get_within steps place other e in
        subst (λ front. EndsNext c front (Conflict other)) (sym (take_front steps (clause ∷ []) place (omega arith))) (are.descents place other e)
    by place other (inr here) =
        let front : take place (steps ++ (clause ∷ [])) ≡ steps = ap (λ k. take k (steps ++ (clause ∷ []))) here.0 ∙ take_all steps (clause ∷ []) in
        subst (λ ys. EndsNext c ys (Conflict other)) (sym front) (subst (λ d. EndsNext c steps (Conflict d)) here.1 next)

    before : (place : ℕ) (other : List Lit) → place + 1 < length (steps ++ (clause ∷ [])) → other ≡ [] → (slice_get steps place ≡ Some other) ⊎ ((place ≡ length steps) × (clause ≡ other)) → ⊥
    before place other h empty (inl e) = filled place other e empty
    before place other h empty (inr here) =
        let whole = length-append steps (clause ∷ []) in
        let at = here.0 in
        omega arith

filled_more : (steps : List (List Lit)) (clause : List Lit) → NoneEmpty steps → (clause ≡ [] → ⊥) → NoneEmpty (steps ++ (clause ∷ []))
filled_more steps clause filled new place other e empty = by (last_or_before steps clause place other e)
  where
    by : (slice_get steps place ≡ Some other) ⊎ ((place ≡ length steps) × (clause ≡ other)) → ⊥
    by (inl before) = filled place other before empty
    by (inr here) = new (here.1 ∙ empty)

pub names_below : (m n : ℕ) (assumed : List ℕ) → m ≤ n → AllBelow m assumed → names_only n (clause_of assumed) ≡ true
names_below m n [] h all = refl
names_below m n (x ∷ xs) h all =
    let less : x < m = all.0 in
    let below : x < n = omega arith in
    let test : nat_lt x n ≡ true = grind (arith, nat_tests) in
    rw test (names_below m n xs h all.1)

conflict_lawful : (c : Circuit) (steps : List Step) (step : Step) → IsConflict c (known_to c steps) step → IsLawful (variables c) (known_to c steps) step
conflict_lawful c steps step conflict =
    let fresh = step_fresh c (clauses_in steps) step.clause conflict.0 in
    record {
      named = ap (names_only (variables c)) fresh.is ∙ names_below c.inputs (variables c) fresh.assumed (omega arith) fresh.below;
      refuted = conflict.1;
    }

within_at : (steps : List Step) (place : ℕ) → place < length steps → (step : Step) × (slice_get steps place ≡ Some step)
within_at [] place h = absurd (omega arith)
within_at (s ∷ steps) zero h = (s, refl)
within_at (s ∷ steps) (suc place) h = within_at steps place (omega arith)

lawful_more : (c : Circuit) (steps : List Step) (step : Step) → AreLawful c steps (length steps) → IsLawful (variables c) (known_to c steps) step → AreLawful c (steps ++ (step ∷ [])) (length (steps ++ (step ∷ [])))
lawful_more c steps step are is place h =
    let whole = length-append steps (step ∷ []) in
    by (split place (length steps)) (omega arith)
  where
    split : (j k : ℕ) → (j < k) ⊎ (k ≤ j)
    split j k = grind arith

    by : (place < length steps) ⊎ (length steps ≤ place) → place < length steps + 1 → IsLawfulAt c (steps ++ (step ∷ [])) place
    by (inl before) h =
        let old = are place before in
        record {
          step = old.step;
          found = get_left steps (step ∷ []) place old.step old.found;
          lawful = subst (λ front. IsLawful (variables c) (clauses_of c ++ clauses_in front) old.step) (sym (take_front steps (step ∷ []) place (omega arith))) old.lawful;
        }
    by (inr here) h =
        let at : place ≡ length steps = omega arith in
        let front : take place (steps ++ (step ∷ [])) ≡ steps = ap (λ k. take k (steps ++ (step ∷ []))) at ∙ take_all steps (step ∷ []) in
        record {
          step = step;
          found = ap (slice_get (steps ++ (step ∷ []))) at ∙ get_last steps step;
          lawful = subst (λ ys. IsLawful (variables c) (clauses_of c ++ clauses_in ys) step) (sym front) is;
        }

pub searching_first : (c : Circuit) → IsSearching c []
searching_first c = record {
  steps_so_far = record { descents = λ place clause e. absurd (cc); goes_on = λ place clause h e empty. absurd (cc) };
  filled = λ place clause e empty. cc;
  lawful = λ place h. absurd (omega arith);
}

pub clauses_more : (steps : List Step) (step : Step) → clauses_in (steps ++ (step ∷ [])) ≡ clauses_in steps ++ (step.clause ∷ [])
clauses_more steps step = map-append (λ (s : Step). s.clause) steps (step ∷ [])

pub searching_more : (c : Circuit) (steps : List Step) (step : Step) → IsSearching c steps → IsConflict c (known_to c steps) step → (step.clause ≡ [] → ⊥) → IsSearching c (steps ++ (step ∷ []))
searching_more c steps step is conflict new = record {
  steps_so_far = subst (AreSteps c) (sym (clauses_more steps step)) (steps_more c (clauses_in steps) step.clause is.steps_so_far is.filled conflict.0);
  filled = subst NoneEmpty (sym (clauses_more steps step)) (filled_more (clauses_in steps) step.clause is.filled new);
  lawful = lawful_more c steps step is.lawful (conflict_lawful c steps step conflict);
}

pub unsat_from : (c : Circuit) (limit : ℕ) (steps : List Step) (step : Step) → IsSearching c steps → IsConflict c (known_to c steps) step → step.clause ≡ [] → length steps ≤ limit → IsUnsat c limit (steps ++ (step ∷ []))
unsat_from c limit steps step is conflict empty h =
    let whole = length-append steps (step ∷ []) in
    let count = length-map steps (λ (s : Step). s.clause) in
    let all = steps ++ (step ∷ []) in
    let clauses = clauses_in steps ++ (step.clause ∷ []) in
    let clause_count = length-append (clauses_in steps) (step.clause ∷ []) in
    let at : slice_get clauses (length (clauses_in steps)) ≡ Some [] = get_last (clauses_in steps) step.clause ∙ ap (λ (d : List Lit). Some d) empty in
    let few : length clauses ≤ limit + 1 = omega arith in
    let told : IsOutcome c limit (Refuted clauses) = (steps_more c (clauses_in steps) step.clause is.steps_so_far is.filled conflict.0, few, (length (clauses_in steps), clause_count, at)) in
    let last : length all - 1 ≡ length steps = omega arith in
    let sizes : length clauses ≡ length all = omega arith in
    let ends : EndsEmpty all = record { last = step; found = ap (slice_get all) last ∙ get_last steps step; empty = empty } in
    record {
      outcome = subst (λ cs. IsOutcome c limit (Refuted cs)) (sym (clauses_more steps step)) told;
      accepted = (lawful_more c steps step is.lawful (conflict_lawful c steps step conflict), ends);
      few = omega arith;
      bound = subst (λ n. n ≤ 2 ^ c.inputs) sizes (few_steps c clauses told.0);
    }

pub spent_from : (c : Circuit) (limit : ℕ) (steps : List Step) (step : Step) → IsSearching c steps → IsConflict c (known_to c steps) step → (step.clause ≡ [] → ⊥) → length steps ≡ limit → IsSpent c limit steps
spent_from c limit steps step is conflict new count =
    let sizes = length-map steps (λ (s : Step). s.clause) in
    let clauses = clauses_in steps ++ (step.clause ∷ []) in
    let clause_count = length-append (clauses_in steps) (step.clause ∷ []) in
    let fewer : length clauses < 2 ^ c.inputs = filled_steps c clauses (steps_more c (clauses_in steps) step.clause is.steps_so_far is.filled conflict.0) (filled_more (clauses_in steps) step.clause is.filled new) in
    record {
      outcome = (is.steps_so_far, is.filled, sizes ∙ count, (step.clause, new, conflict.0));
      lawful = is.lawful;
      count = count;
      filled = is.filled;
      new = λ place clause at. new_step c (take place (clauses_in steps)) clause (is.steps_so_far.descents place clause at) (is.filled place clause at);
      bound = omega arith;
    }

value_back : (o : Option (Option Bool)) (b : Bool) → value_in o ≡ Some b → (inner : Option Bool) × (o ≡ Some inner) × (inner ≡ Some b)
value_back None b e = absurd (cc)
value_back (Some inner) b e = (inner, refl, e)

listed : (values : List (Option Bool)) (x : ℕ) (b : Bool) → partial_of values x ≡ Some b → partial_of values x ≡ slice_get (map value_or_false values) x
listed [] x b e = absurd (cc)
listed (None ∷ values) zero b e = absurd (cc)
listed (Some v ∷ values) zero b e = refl
listed (v ∷ values) (suc x) b e = listed values x b e

pub sat_from : (c : Circuit) (limit : ℕ) (steps : List Step) (list : List Bool) → StableValuesSatisfy → IsCircuit c → IsSearching c steps → AreEndValues c (known_to c steps) list → length steps ≤ limit → IsSat c limit list
sat_from c limit steps list law circuit is values h =
    let p = partial_of values.0 in
    let count = length-map steps (λ (s : Step). s.clause) in
    let few : length (clauses_in steps) ≤ limit = omega arith in
    let all = law.valued c (clauses_in steps) p circuit values.3 values.4 in
    let same = λ (x : ℕ) (below : x < variables c). listed values.0 x (all x below).0 (all x below).1 ∙ ap (λ (ls : List Bool). slice_get ls x) (sym values.1) in
    record {
      values = p;
      outcome = (clauses_in steps, is.steps_so_far, is.filled, few, values.5);
      covers = ap (λ (ls : List Bool). length ls) values.1 ∙ length-map values.0 value_or_false ∙ values.2;
      same = same;
      satisfied = λ v has. law.satisfied c (clauses_in steps) p v circuit values.3 values.4 (λ x below. same x below ∙ has x below);
    }

pub empty_is : (d : List Lit) (b : Bool) → b ≡ eqb (length d) 0 → b ≡ true → d ≡ []
empty_is [] b e f = refl
empty_is (l ∷ ls) b e f =
    let none : length (l ∷ ls) ≡ 0 = eqb-true (length (l ∷ ls)) 0 (sym e ∙ f) in
    absurd (omega arith)

pub filled_is : (d : List Lit) (b : Bool) → b ≡ eqb (length d) 0 → b ≡ false → d ≡ [] → ⊥
filled_is d b e f empty =
    let none : eqb (length d) 0 ≡ true = eq-eqb (length d) 0 (ap (λ (ls : List Lit). length ls) empty) in
    false≢true (sym f ∙ e ∙ none)
