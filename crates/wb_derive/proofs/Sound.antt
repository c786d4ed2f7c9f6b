-- A derivation with the verdict yes shows that no assignment satisfies the formula.
use Rattle.std.proofs.Common.{◌≡◌, ℕ, zero, suc, ◌+◌, ◌-◌, ◌<◌, ◌≤◌, ◌⊎◌, inl, inr, Bool, true, false, not, ◌&&◌, ◌||◌, if◌then◌else◌, List, [], ◌∷◌, ◌++◌, length, map, take, Some, refl, sym, ◌∙◌, ap, subst, arith, eqb, append_assoc}
use Rattle.std.specs.List.{slice_get, list_all}
use Rattle.std.proofs.lemmas.Bool.{eqb-true, false≢true}
use Rattle.std.proofs.lemmas.List.{append-nil, map-append}
use Rattle.std.proofs.lemmas.List.Folds.{list_all-append}
use Rattle.std.proofs.lemmas.Option.{slice_get_within}
use Rattle.wb_gate.specs.declared.gates.Lit.{Lit}
use Rattle.wb_gate.specs.Circuit.{Circuit, Assignment, variables, lit_value, minus}
use Rattle.wb_gate.specs.Clauses.{clauses_of, satisfies_clause, SatisfiesAll, Satisfies}
use Rattle.wb_derive.specs.declared.steps.Step.{Step}
use Rattle.wb_derive.specs.declared.verdicts.Check.{Check}
use Rattle.wb_derive.specs.declared.verdicts.Check.TheVariants.{Yes, No}
use Rattle.wb_derive.specs.Partial.{Partial, nothing, assume, refute, IsFalse, IsFalsified, AreFalseBut, IsUnit}
use Rattle.wb_derive.specs.Lawful.{Refutes, IsLawful, known_before}
use Rattle.wb_derive.specs.Verdict.{AreLawful, IsStoppedAt, IsVerdict}
use Rattle.wb_derive.specs.Laws.{VerdictsAreSound}

-- the assignment gives the values that some variables have
record Agrees (v : Assignment) (p : Partial) : Type 0 where
  on : (x : ℕ) (b : Bool) → p x ≡ Some b → v x ≡ b

nothing_agrees : (v : Assignment) → Agrees v nothing
nothing_agrees v = record { on = λ x b e. absurd (cc) }

both_false : (b : Bool) → (if b then not b else b) ≡ false
both_false true = refl
both_false false = refl

false_lit : (v : Assignment) (p : Partial) (l : Lit) → Agrees v p → IsFalse p l → lit_value v l ≡ false
false_lit v p l agrees is = ap (λ b. if l.neg then not b else b) (agrees.on l.var l.neg is) ∙ both_false l.neg

falsified_false : (v : Assignment) (p : Partial) (clause : List Lit) → Agrees v p → IsFalsified p clause → satisfies_clause v clause ≡ false
falsified_false v p [] agrees is = refl
falsified_false v p (l ∷ ls) agrees is =
    rw (false_lit v p l agrees is.0) (falsified_false v p ls agrees is.1)

unit_true : (v : Assignment) (p : Partial) (l : Lit) (clause : List Lit) → Agrees v p → AreFalseBut l p clause → satisfies_clause v clause ≡ true → lit_value v l ≡ true
unit_true v p l [] agrees others h = absurd (cc)
unit_true v p l (m ∷ ms) agrees others h = by (unit_true v p l ms agrees others.1) (lit_value v m) refl others.0 h
  where
    by : (satisfies_clause v ms ≡ true → lit_value v l ≡ true) → (b : Bool) → lit_value v m ≡ b → (m ≡ l) ⊎ IsFalse p m → (b || satisfies_clause v ms) ≡ true → lit_value v l ≡ true
    by later true is (inl same) h = ap (lit_value v) (sym same) ∙ is
    by later true is (inr false_one) h = absurd (false≢true (sym (false_lit v p m agrees false_one) ∙ is))
    by later false is which h = later h

value_of_true : (neg value : Bool) → (if neg then not value else value) ≡ true → value ≡ not neg
value_of_true true true h = cc
value_of_true true false h = refl
value_of_true false true h = refl
value_of_true false false h = cc

assume_agrees : (v : Assignment) (p : Partial) (l : Lit) → Agrees v p → lit_value v l ≡ true → Agrees v (assume p l)
assume_agrees v p l agrees is = record { on = λ x b e. by x b (eqb x l.var) refl e }
  where
    by : (x : ℕ) (b : Bool) (same : Bool) → eqb x l.var ≡ same → (if same then Some (not l.neg) else p x) ≡ Some b → v x ≡ b
    by x b true here e =
        let value : not l.neg ≡ b = cc in
        ap v (eqb-true x l.var here) ∙ value_of_true l.neg (v l.var) is ∙ value
    by x b false there e = agrees.on x b e

all_at : (v : Assignment) (xs : List (List Lit)) (k : ℕ) (clause : List Lit) → SatisfiesAll v xs → slice_get xs k ≡ Some clause → satisfies_clause v clause ≡ true
all_at v [] k clause all e = absurd (cc)
all_at v (x ∷ xs) k clause all e = by (all_at v xs) k (satisfies_clause v x) refl all e
  where
    by : ((k : ℕ) (clause : List Lit) → SatisfiesAll v xs → slice_get xs k ≡ Some clause → satisfies_clause v clause ≡ true) → (k : ℕ) (b : Bool) → satisfies_clause v x ≡ b → (b && list_all (satisfies_clause v) xs) ≡ true → slice_get (x ∷ xs) k ≡ Some clause → satisfies_clause v clause ≡ true
    by later zero true is rest e = let same : x ≡ clause = cc in ap (satisfies_clause v) (sym same) ∙ is
    by later (suc k) true is rest e = later k clause rest e
    by later k false is rest e = absurd (cc)

refutes_sound : (v : Assignment) (known : List (List Lit)) (hints : List ℕ) (p : Partial) → SatisfiesAll v known → Agrees v p → Refutes known hints p → ⊥
refutes_sound v known [] p all agrees is = is
refutes_sound v known (hint ∷ hints) p all agrees is = by (refutes_sound v known hints) is.2
  where
    true_here : satisfies_clause v is.0 ≡ true
    true_here = all_at v known hint is.0 all is.1

    by : ((q : Partial) → SatisfiesAll v known → Agrees v q → Refutes known hints q → ⊥) → (IsFalsified p is.0 × (hints ≡ [])) ⊎ ((l : Lit) × IsUnit p is.0 l × Refutes known hints (assume p l)) → ⊥
    by later (inl falsified) = false≢true (sym (falsified_false v p is.0 agrees falsified.0) ∙ true_here)
    by later (inr unit) =
        later (assume p unit.0) all
        (assume_agrees v p unit.0 agrees (unit_true v p unit.0 is.0 agrees unit.1.others true_here))
        unit.2

minus_true : (v : Assignment) (l : Lit) → lit_value v l ≡ false → lit_value v (minus l) ≡ true
minus_true v l h = by l.neg (v l.var) h
  where
    by : (neg value : Bool) → (if neg then not value else value) ≡ false → (if not neg then not value else value) ≡ true
    by true true h = refl
    by true false h = cc
    by false true h = cc
    by false false h = refl

refute_agrees : (v : Assignment) (clause : List Lit) (p : Partial) → Agrees v p → satisfies_clause v clause ≡ false → Agrees v (refute clause p)
refute_agrees v [] p agrees h = agrees
refute_agrees v (l ∷ ls) p agrees h = by (refute_agrees v ls) (lit_value v l) refl h
  where
    by : ((q : Partial) → Agrees v q → satisfies_clause v ls ≡ false → Agrees v (refute ls q)) → (b : Bool) → lit_value v l ≡ b → (b || satisfies_clause v ls) ≡ false → Agrees v (refute ls (assume p (minus l)))
    by later true is h = absurd (cc)
    by later false is h = later (assume p (minus l)) (assume_agrees v p (minus l) agrees (minus_true v l is)) h

lawful_sound : (v : Assignment) (n : ℕ) (known : List (List Lit)) (step : Step) → SatisfiesAll v known → IsLawful n known step → satisfies_clause v step.clause ≡ true
lawful_sound v n known step all is = by (satisfies_clause v step.clause) refl
  where
    by : (b : Bool) → satisfies_clause v step.clause ≡ b → b ≡ true
    by true e = refl
    by false e =
        absurd (refutes_sound v known step.hints (refute step.clause nothing) all
        (refute_agrees v step.clause nothing (nothing_agrees v) e) is.refuted)

take_more : (xs : List Step) (k : ℕ) (x : Step) → slice_get xs k ≡ Some x → take (suc k) xs ≡ take k xs ++ (x ∷ [])
take_more [] k x e = absurd (cc)
take_more (y ∷ xs) zero x e = let same : y ≡ x = cc in ap (λ z. z ∷ []) same
take_more (y ∷ xs) (suc k) x e = ap (λ zs. y ∷ zs) (take_more xs k x e)

clause_of : Step → List Lit
clause_of s = s.clause

pub known-more : (c : Circuit) (steps : List Step) (k : ℕ) (step : Step) → slice_get steps k ≡ Some step → known_before c steps (suc k) ≡ known_before c steps k ++ (step.clause ∷ [])
known-more c steps k step found =
    ap (λ ss. clauses_of c ++ map (λ (s : Step). s.clause) ss) (take_more steps k step found)
    ∙ ap (λ cs. clauses_of c ++ cs) (map-append (λ (s : Step). s.clause) (take k steps) (step ∷ []))
    ∙ sym (append_assoc (clauses_of c) (map (λ (s : Step). s.clause) (take k steps)) (step.clause ∷ []))

both_all : (v : Assignment) (xs ys : List (List Lit)) → SatisfiesAll v xs → SatisfiesAll v ys → SatisfiesAll v (xs ++ ys)
both_all v xs ys first second = list_all-append (satisfies_clause v) xs ys ∙ rw first second

known_satisfied : (v : Assignment) (c : Circuit) (steps : List Step) → Satisfies v c → (count : ℕ) → AreLawful c steps count → SatisfiesAll v (known_before c steps count)
known_satisfied v c steps sat zero lawful =
    let P : List (List Lit) → Type 0 = λ cs. SatisfiesAll v cs in
    subst P (sym (append-nil (clauses_of c))) sat
known_satisfied v c steps sat (suc count) lawful =
    let at = lawful count (omega arith) in
    let before = known_satisfied v c steps sat count (λ k h. lawful k (omega arith)) in
    let here = lawful_sound v (variables c) (known_before c steps count) at.step before at.lawful in
    let P : List (List Lit) → Type 0 = λ cs. SatisfiesAll v cs in
    subst P (sym (known-more c steps count at.step at.found))
    (both_all v (known_before c steps count) (at.step.clause ∷ []) before (rw here refl))

sound : (c : Circuit) (steps : List Step) → IsVerdict c steps Yes → (v : Assignment) → Satisfies v c → ⊥
sound c steps accepted v sat =
    let last = accepted.1 in
    let within : length steps - 1 < length steps = slice_get_within steps (length steps - 1) last.last last.found in
    let at = accepted.0 (length steps - 1) within in
    let same : at.step ≡ last.last = let e = at.found in let f = last.found in cc in
    let empty : at.step.clause ≡ [] = ap (λ (s : Step). s.clause) same ∙ last.empty in
    let before = known_satisfied v c steps sat (length steps - 1) (λ k h. accepted.0 k (omega arith)) in
    let holds = lawful_sound v (variables c) (known_before c steps (length steps - 1)) at.step before at.lawful in
    false≢true (sym (ap (satisfies_clause v) empty) ∙ holds)

-- one verdict
no_stop : (c : Circuit) (steps : List Step) (place : ℕ) → IsVerdict c steps Yes → IsStoppedAt c steps place → ⊥
no_stop c steps place accepted (inl stop) = stop.1 (accepted.0 place stop.0)
no_stop c steps place accepted (inr stop) = stop.1 accepted.1

not_after : (c : Circuit) (steps : List Step) (p q : ℕ) → IsStoppedAt c steps p → AreLawful c steps q → IsStoppedAt c steps q → p < q → ⊥
not_after c steps p q (inl stop) lawful other before = stop.1 (lawful p before)
not_after c steps p q (inr stop) lawful (inl other) before = let h = other.0 in let k = stop.0 in omega arith
not_after c steps p q (inr stop) lawful (inr other) before = let h = other.0 in let k = stop.0 in omega arith

split : (m n : ℕ) → (m < n) ⊎ (n ≤ m)
split m n = grind arith

one_verdict : (c : Circuit) (steps : List Step) (verdict other : Check) → IsVerdict c steps verdict → IsVerdict c steps other → verdict ≡ other
one_verdict c steps Yes Yes is also = refl
one_verdict c steps Yes (No q) is also = absurd (no_stop c steps also.0 is also.3)
one_verdict c steps (No p) Yes is also = absurd (no_stop c steps is.0 also is.3)
one_verdict c steps (No p) (No q) is also = ap No (is.1 ∙ ap (λ n. n + 1) (by (split is.0 also.0) (split also.0 is.0)) ∙ sym also.1)
  where
    by : (is.0 < also.0) ⊎ (also.0 ≤ is.0) → (also.0 < is.0) ⊎ (is.0 ≤ also.0) → is.0 ≡ also.0
    by (inl before) _ = absurd (not_after c steps is.0 also.0 is.3 also.2 also.3 before)
    by (inr _) (inl after) = absurd (not_after c steps also.0 is.0 also.3 is.2 is.3 after)
    by (inr h) (inr k) = omega arith

pub verdicts_are_sound : VerdictsAreSound
verdicts_are_sound = record { one = one_verdict; sound = sound }
