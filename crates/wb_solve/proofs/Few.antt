-- A search has few steps: no step that isn't empty contains a clause that was known, so no two name the same inputs.
use Rattle.std.proofs.Common.{◌≡◌, ℕ, zero, suc, ◌+◌, ◌^◌, ◌<◌, ◌≤◌, ◌⊎◌, inl, inr, Bool, true, false, ◌||◌, if◌then◌else◌, eqb, List, [], ◌∷◌, ◌++◌, length, map, take, Some, refl, sym, ◌∙◌, ap, subst, arith, eq-eqb}
use Rattle.std.specs.List.{slice_get, list_any, AllByRecursion, IsDistinct}
use Rattle.std.proofs.Math.Nat.{pow-suc}
use Rattle.std.proofs.lemmas.Bool.{eqb-true}
use Rattle.std.proofs.lemmas.Option.{slice_get_within}
use Rattle.std.proofs.lemmas.List.{length-map}
use Rattle.std.proofs.lemmas.Map.Steps.{length-le_from_distinct_below}
use Rattle.wb_gate.specs.declared.gates.Lit.{Lit}
use Rattle.wb_gate.specs.Circuit.{Circuit, variable}
use Rattle.wb_gate.specs.Clauses.{clauses_of}
use Rattle.wb_derive.specs.Partial.{nothing, Occurs}
use Rattle.wb_solve.specs.Descent.{Conflict, clause_of}
use Rattle.wb_solve.specs.Search.{EndsNext, AreSteps, NoneEmpty}
use Rattle.wb_solve.specs.Laws.{IsWithin, StepsAreFew}
use Rattle.wb_solve.proofs.Lists.{get_after, get_taken}
use Rattle.wb_solve.proofs.Orders.{some_order}
use Rattle.wb_solve.specs.Course.{AllBelow, NoneWithin}
use Rattle.wb_solve.proofs.Fresh.{IsFresh, pending_first, descent_fresh}

-- the clause names this variable
names : ℕ → List Lit → Bool
names x [] = false
names x (l ∷ ls) = eqb x l.var || names x ls

-- the variables below n that the clause names, as the digits of a number to the base of two
code : ℕ → List Lit → ℕ
code zero clause = 0
code (suc n) clause = (if names n clause then 2 ^ n else 0) + code n clause

code-below : (n : ℕ) (clause : List Lit) → code n clause < 2 ^ n
unfolding code
code-below zero clause = omega arith
code-below (suc n) clause = by (names n clause) (code-below n clause)
  where
    by : (b : Bool) → code n clause < 2 ^ n → (if b then 2 ^ n else 0) + code n clause < 2 ^ suc n
    by true h = rw (pow-suc 2 n) (omega arith)
    by false h = rw (pow-suc 2 n) (omega arith)

split : (x n : ℕ) → (x < n) ⊎ (n ≤ x)
split x n = grind arith

-- clauses with the same number name the same variables
code_same : (n : ℕ) (one two : List Lit) → code n one ≡ code n two → (x : ℕ) → x < n → names x one ≡ names x two
unfolding code
code_same zero one two e x h = absurd (omega arith)
code_same (suc n) one two e x h = by (names n one) (names n two) refl refl e (code-below n one) (code-below n two) (code_same n one two) (split x n)
  where
    last : (b : Bool) → names n one ≡ b → names n two ≡ b → code n one ≡ code n two → (code n one ≡ code n two → (y : ℕ) → y < n → names y one ≡ names y two) → (x < n) ⊎ (n ≤ x) → names x one ≡ names x two
    last b f g same later (inl before) = later same x before
    last b f g same later (inr here) = let at : x ≡ n = omega arith in rw at (f ∙ sym g)

    by : (a b : Bool) → names n one ≡ a → names n two ≡ b → (if a then 2 ^ n else 0) + code n one ≡ (if b then 2 ^ n else 0) + code n two → code n one < 2 ^ n → code n two < 2 ^ n → (code n one ≡ code n two → (y : ℕ) → y < n → names y one ≡ names y two) → (x < n) ⊎ (n ≤ x) → names x one ≡ names x two
    by true true f g e s t later which = last true f g (omega arith) later which
    by false false f g e s t later which = last false f g (omega arith) later which
    by true false f g e s t later which = absurd (omega arith)
    by false true f g e s t later which = absurd (omega arith)

or_right : (a : Bool) → (a || true) ≡ true
or_right true = refl
or_right false = refl

occurs_named : (l : Lit) (clause : List Lit) → Occurs l clause → names l.var clause ≡ true
unfolding names
occurs_named l [] o = absurd o
occurs_named l (m ∷ ms) (inl here) = rw (eq-eqb l.var m.var (ap (λ (k : Lit). k.var) (sym here))) refl
occurs_named l (m ∷ ms) (inr there) = rw (occurs_named l ms there) (or_right (eqb l.var m.var))

named_occurs : (x : ℕ) (assumed : List ℕ) → names x (clause_of assumed) ≡ true → Occurs (variable x) (clause_of assumed)
unfolding names
named_occurs x [] h = absurd (cc)
named_occurs x (y ∷ ys) h = by (eqb x y) refl h (named_occurs x ys)
  where
    by : (b : Bool) → eqb x y ≡ b → (b || names x (clause_of ys)) ≡ true → (names x (clause_of ys) ≡ true → Occurs (variable x) (clause_of ys)) → Occurs (variable x) (clause_of (y ∷ ys))
    by true e h later = inl (ap variable (sym (eqb-true x y e)))
    by false e h later = inr (later h)

-- a literal of assumptions is that of a variable below n
of_assumed : (n : ℕ) (l : Lit) (assumed : List ℕ) → AllBelow n assumed → Occurs l (clause_of assumed) → (l ≡ variable l.var) × (l.var < n)
of_assumed n l [] all o = absurd o
of_assumed n l (x ∷ xs) all (inl here) =
    let at : x ≡ l.var = ap (λ (k : Lit). k.var) here in
    (sym here ∙ ap variable at, subst (λ y. y < n) at all.0)
of_assumed n l (x ∷ xs) all (inr there) = of_assumed n l xs all.1 there

names_within : (n : ℕ) (one two : List ℕ) → AllBelow n one → code n (clause_of one) ≡ code n (clause_of two) → IsWithin (clause_of one) (clause_of two)
names_within n one two all e l o =
    let at = of_assumed n l one all o in
    let named : names l.var (clause_of two) ≡ true = sym (code_same n (clause_of one) (clause_of two) e l.var at.1) ∙ occurs_named l (clause_of one) o in
    subst (λ k. Occurs k (clause_of two)) (sym at.0) (named_occurs l.var two named)

none_named : (clause : List Lit) → IsWithin clause [] → clause ≡ []
none_named [] within = refl
none_named (l ∷ ls) within = absurd (within l (inl refl))

pub step_fresh : (c : Circuit) (steps : List (List Lit)) (clause : List Lit) → EndsNext c steps (Conflict clause) → IsFresh c.inputs (clauses_of c ++ steps) clause
step_fresh c steps clause descent =
    descent_fresh c.inputs (clauses_of c ++ steps) clause nothing []
    (some_order c.inputs (clauses_of c ++ steps) (Conflict clause) nothing [] descent)
    (pending_first c.inputs (clauses_of c ++ steps))

pub new_step : (c : Circuit) (steps : List (List Lit)) (clause : List Lit) → EndsNext c steps (Conflict clause) → (clause ≡ [] → ⊥) → NoneWithin (clauses_of c ++ steps) clause
new_step c steps clause descent filled = by ((step_fresh c steps clause descent).fresh)
  where
    by : (clause ≡ []) ⊎ NoneWithin (clauses_of c ++ steps) clause → NoneWithin (clauses_of c ++ steps) clause
    by (inl empty) = absurd (filled empty)
    by (inr new) = new

-- a step lies in no later one
apart : (c : Circuit) (steps : List (List Lit)) → AreSteps c steps → (j k : ℕ) (one two : List Lit) → j < k → slice_get steps j ≡ Some one → slice_get steps k ≡ Some two → code c.inputs one ≡ code c.inputs two → ⊥
apart c steps are j k one two h at_one at_two e =
    by second.fresh
  where
    first : IsFresh c.inputs (clauses_of c ++ take j steps) one
    first = step_fresh c (take j steps) one (are.descents j one at_one)

    second : IsFresh c.inputs (clauses_of c ++ take k steps) two
    second = step_fresh c (take k steps) two (are.descents k two at_two)

    within : IsWithin one two
    within =
        let same : code c.inputs (clause_of first.assumed) ≡ code c.inputs (clause_of second.assumed) = ap (code c.inputs) (sym first.is) ∙ e ∙ ap (code c.inputs) second.is in
        let P : List Lit → Type 0 = λ d. IsWithin one d in
        let Q : List Lit → Type 0 = λ d. IsWithin d (clause_of second.assumed) in
        subst P (sym second.is) (subst Q (sym first.is) (names_within c.inputs first.assumed second.assumed first.below same))

    by : (two ≡ []) ⊎ NoneWithin (clauses_of c ++ take k steps) two → ⊥
    by (inl empty) =
        let inside = slice_get_within steps k two at_two in
        let P : List Lit → Type 0 = λ d. IsWithin one d in
        are.goes_on j one (omega arith) at_one (none_named one (subst P empty within))
    by (inr new) =
        new (length (clauses_of c) + j) one (get_after (clauses_of c) (take k steps) j ∙ get_taken steps j k h ∙ at_one) within

all_from : (P : ℕ → Type 0) (xs : List ℕ) → ((k x : ℕ) → slice_get xs k ≡ Some x → P x) → AllByRecursion P xs
all_from P [] h = tt
all_from P (x ∷ xs) h = (h 0 x refl, all_from P xs (λ k y e. h (suc k) y e))

distinct : (xs : List ℕ) → ((j k x y : ℕ) → j < k → slice_get xs j ≡ Some x → slice_get xs k ≡ Some y → x ≡ y → ⊥) → IsDistinct eqb xs
unfolding IsDistinct
distinct [] h = tt
distinct (x ∷ xs) h = (
  all_from (λ y. eqb x y ≡ false) xs (λ k y e. differ x y (h 0 (suc k) x y (omega arith) refl e)),
  distinct xs (λ j k a b less e f. h (suc j) (suc k) a b (omega arith) e f),
)
  where
    differ : (a b : ℕ) → (a ≡ b → ⊥) → eqb a b ≡ false
    differ a b ne = by (eqb a b) refl
      where
        by : (t : Bool) → eqb a b ≡ t → eqb a b ≡ false
        by true e = absurd (ne (eqb-true a b e))
        by false e = e

codes_below : (n : ℕ) (steps : List (List Lit)) (q : ℕ) → list_any (eqb q) (map (code n) steps) ≡ true → q < 2 ^ n
codes_below n [] q h = absurd (cc)
codes_below n (s ∷ steps) q h = by (eqb q (code n s)) refl h (codes_below n steps q)
  where
    by : (b : Bool) → eqb q (code n s) ≡ b → (b || list_any (eqb q) (map (code n) steps)) ≡ true → (list_any (eqb q) (map (code n) steps) ≡ true → q < 2 ^ n) → q < 2 ^ n
    by true e h later = subst (λ m. m < 2 ^ n) (sym (eqb-true q (code n s) e)) (code-below n s)
    by false e h later = later h

unmap : (n : ℕ) (steps : List (List Lit)) (k x : ℕ) → slice_get (map (code n) steps) k ≡ Some x → (clause : List Lit) × (slice_get steps k ≡ Some clause) × (code n clause ≡ x)
unmap n [] k x e = absurd (cc)
unmap n (s ∷ steps) zero x e = (s, refl, cc)
unmap n (s ∷ steps) (suc k) x e = unmap n steps k x e

pub few : (c : Circuit) (steps : List (List Lit)) → AreSteps c steps → length steps ≤ 2 ^ c.inputs
few c steps are =
    let codes = map (code c.inputs) steps in
    let apart_codes : IsDistinct eqb codes = distinct codes (λ j k x y less e f same. differ j k x y less e f same) in
    let bound : length codes ≤ 2 ^ c.inputs = length-le_from_distinct_below codes (2 ^ c.inputs) apart_codes (codes_below c.inputs steps) in
    subst (λ n. n ≤ 2 ^ c.inputs) (length-map steps (code c.inputs)) bound
  where
    differ : (j k x y : ℕ) → j < k → slice_get (map (code c.inputs) steps) j ≡ Some x → slice_get (map (code c.inputs) steps) k ≡ Some y → x ≡ y → ⊥
    differ j k x y less e f same =
        let one = unmap c.inputs steps j x e in
        let two = unmap c.inputs steps k y f in
        apart c steps are j k one.0 two.0 less one.1 two.1 (one.2 ∙ same ∙ sym two.2)

code-nil : (n : ℕ) → code n [] ≡ 0
unfolding code names
code-nil zero = refl
code-nil (suc n) = rw (code-nil n) refl

-- a step whose number is none names no input
zero_empty : (c : Circuit) (steps : List (List Lit)) → AreSteps c steps → (k : ℕ) (clause : List Lit) → slice_get steps k ≡ Some clause → code c.inputs clause ≡ 0 → clause ≡ []
zero_empty c steps are k clause at e =
    let fresh = step_fresh c (take k steps) clause (are.descents k clause at) in
    let same : code c.inputs (clause_of fresh.assumed) ≡ code c.inputs (clause_of []) = ap (code c.inputs) (sym fresh.is) ∙ e ∙ sym (code-nil c.inputs) in
    fresh.is ∙ none_named (clause_of fresh.assumed) (names_within c.inputs fresh.assumed [] fresh.below same)

pub filled : (c : Circuit) (steps : List (List Lit)) → AreSteps c steps → NoneEmpty steps → length steps < 2 ^ c.inputs
filled c steps are none =
    let codes = map (code c.inputs) steps in
    let apart_codes : IsDistinct eqb (0 ∷ codes) = distinct (0 ∷ codes) differ in
    let bound : length (0 ∷ codes) ≤ 2 ^ c.inputs = length-le_from_distinct_below (0 ∷ codes) (2 ^ c.inputs) apart_codes below in
    let count = length-map steps (code c.inputs) in
    omega arith
  where
    differ : (j k x y : ℕ) → j < k → slice_get (0 ∷ map (code c.inputs) steps) j ≡ Some x → slice_get (0 ∷ map (code c.inputs) steps) k ≡ Some y → x ≡ y → ⊥
    differ j zero x y less e f same = absurd (omega arith)
    differ zero (suc k) x y less e f same =
        let found = unmap c.inputs steps k y f in
        let nil : 0 ≡ x = cc in
        none k found.0 found.1 (zero_empty c steps are k found.0 found.1 (found.2 ∙ sym same ∙ sym nil))
    differ (suc j) (suc k) x y less e f same =
        let one = unmap c.inputs steps j x e in
        let two = unmap c.inputs steps k y f in
        apart c steps are j k one.0 two.0 (omega arith) one.1 two.1 (one.2 ∙ same ∙ sym two.2)

    below : (q : ℕ) → list_any (eqb q) (0 ∷ map (code c.inputs) steps) ≡ true → q < 2 ^ c.inputs
    below q h = by (eqb q 0) refl h
      where
        by : (b : Bool) → eqb q 0 ≡ b → (b || list_any (eqb q) (map (code c.inputs) steps)) ≡ true → q < 2 ^ c.inputs
        by true e h =
            let none : q ≡ 0 = eqb-true q 0 e in
            let low = code-below c.inputs [] in
            omega arith
        by false e h = codes_below c.inputs steps q h

pub steps_are_few : StepsAreFew
steps_are_few = record {
  new = λ c steps clause descent filled. new_step c steps clause descent filled;
  few = few;
  filled = filled;
}
