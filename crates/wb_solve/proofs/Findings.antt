-- What is found among the clauses that a descent knows.
use Rattle.std.proofs.Common.{◌≡◌, ℕ, zero, suc, ◌+◌, ◌*◌, ◌<◌, ◌≤◌, ◌⊎◌, inl, inr, Bool, true, false, ◌&&◌, nat_lt, List, [], ◌∷◌, length, Some, None, refl, sym, ◌∙◌, ap, subst, arith, length-append}
use Rattle.std.specs.List.{slice_get}
use Rattle.std.proofs.lemmas.Bool.{ltb-true}
use Rattle.std.proofs.lemmas.List.{length-map}
use Rattle.wb_gate.specs.declared.gates.Lit.{Lit}
use Rattle.wb_gate.specs.declared.gates.Gate.{Gate}
use Rattle.wb_gate.specs.declared.gates.Gate.TheVariants.{And, Xor, Mux, Maj}
use Rattle.wb_gate.specs.declared.gates.Goal.{Goal}
use Rattle.wb_gate.specs.declared.gates.Goal.TheVariants as goal
use Rattle.wb_gate.specs.Circuit.{Circuit, variable}
use Rattle.wb_gate.specs.Clauses.{gate_clauses, clauses_from, goal_clauses, clauses_of, names_only}
use Rattle.wb_derive.specs.declared.steps.Step.{Step}
use Rattle.wb_derive.specs.Partial.{Partial, IsFalsified, IsUnit, Occurs}
use Rattle.wb_solve.specs.Search.{clauses_in}
use Rattle.wb_solve.specs.Course.{Standing, Falsified, UnitOf, Other, Found, FalsifiedFound, UnitFound, NoneFound, IsStanding, StandsAt, UnitWithin, NoneFalsifiedBelow, NoneUnitBelow, IsFound, noted, known_to}
use Rattle.wb_solve.proofs.Lists.{get_left, get_after}

pub occurs_below : (n : ℕ) (clause : List Lit) (l : Lit) → names_only n clause ≡ true → Occurs l clause → l.var < n
occurs_below n [] l named o = absurd o
occurs_below n (m ∷ ms) l named o = by (nat_lt m.var n) refl named o (occurs_below n ms l)
  where
    by : (b : Bool) → nat_lt m.var n ≡ b → (b && names_only n ms) ≡ true → (m ≡ l) ⊎ Occurs l ms → (names_only n ms ≡ true → Occurs l ms → l.var < n) → l.var < n
    by true e named (inl here) later = subst (λ (k : Lit). k.var < n) here (ltb-true m.var n e)
    by true e named (inr there) later = later named there
    by false e named o later = absurd (cc)

pub unit_within : (n : ℕ) (p : Partial) (clause : List Lit) (s : Standing) → names_only n clause ≡ true → IsStanding p clause s → UnitWithin n s
unit_within n p clause Falsified named is = tt
unit_within n p clause (UnitOf l) named is = occurs_below n clause l named is.there
unit_within n p clause Other named is = tt

pub clause_in : (steps : List Step) (place : ℕ) (step : Step) → slice_get steps place ≡ Some step → slice_get (clauses_in steps) place ≡ Some step.clause
clause_in [] place step e = absurd (cc)
clause_in (s ∷ steps) zero step e = let same : s ≡ step = cc in ap (λ (t : Step). Some t.clause) same
clause_in (s ∷ steps) (suc place) step e = clause_in steps place step e

pub known_in_formula : (c : Circuit) (steps : List Step) (number : ℕ) (clause : List Lit) → slice_get (clauses_of c) number ≡ Some clause → slice_get (known_to c steps) number ≡ Some clause
known_in_formula c steps number clause e = get_left (clauses_of c) (clauses_in steps) number clause e

pub known_in_steps : (c : Circuit) (steps : List Step) (number place : ℕ) (clause : List Lit) → length (clauses_of c) + place ≡ number → slice_get (clauses_in steps) place ≡ Some clause → slice_get (known_to c steps) number ≡ Some clause
known_in_steps c steps number place clause e at =
    ap (slice_get (known_to c steps)) (sym e) ∙ get_after (clauses_of c) (clauses_in steps) place ∙ at

pub length_known : (c : Circuit) (steps : List Step) → length (known_to c steps) ≡ length (clauses_of c) + length steps
length_known c steps =
    length-append (clauses_of c) (clauses_in steps) ∙ ap (λ n. length (clauses_of c) + n) (length-map steps (λ (s : Step). s.clause))

pub gate_few : (g : Lit) (gate : Gate) → length (gate_clauses g gate) ≤ 6
gate_few g (And x y) = omega arith
gate_few g (Xor x y) = omega arith
gate_few g (Mux c x y) = omega arith
gate_few g (Maj x y z) = omega arith

goal_few : (asked : Goal) → length (goal_clauses asked) ≤ 1
goal_few (goal.Lit l) = omega arith
goal_few goal.Never = omega arith
goal_few goal.Always = omega arith

pub gates_few : (next : ℕ) (gates : List Gate) → length (clauses_from next gates) ≤ 6 * length gates
gates_few next [] = omega arith
gates_few next (gate ∷ gates) =
    let first = gate_few (variable next) gate in
    let rest = gates_few (next + 1) gates in
    let whole = length-append (gate_clauses (variable next) gate) (clauses_from (next + 1) gates) in
    omega arith

pub clauses_few : (c : Circuit) → length (clauses_of c) ≤ 6 * length c.gates + 1
clauses_few c =
    let first = gates_few c.inputs c.gates in
    let last = goal_few c.goal in
    let whole = length-append (clauses_from c.inputs c.gates) (goal_clauses c.goal) in
    omega arith

split : (j k : ℕ) → j < k + 1 → (j < k) ⊎ (j ≡ k)
split j k h = grind arith

pub same_clause : (known : List (List Lit)) (number : ℕ) (one two : List Lit) → slice_get known number ≡ Some one → slice_get known number ≡ Some two → one ≡ two
same_clause known number one two e f = cc

more_falsified : (known : List (List Lit)) (p : Partial) (k : ℕ) (clause : List Lit) → NoneFalsifiedBelow known p k → slice_get known k ≡ Some clause → (IsFalsified p clause → ⊥) → NoneFalsifiedBelow known p (k + 1)
more_falsified known p k clause before at none number other h e f = by (split number k h)
  where
    by : (number < k) ⊎ (number ≡ k) → ⊥
    by (inl less) = before number other less e f
    by (inr same) = none (subst (IsFalsified p) (same_clause known k other clause (ap (slice_get known) (sym same) ∙ e) at) f)

more_unit : (known : List (List Lit)) (p : Partial) (k : ℕ) (clause : List Lit) → NoneUnitBelow known p k → slice_get known k ≡ Some clause → ((l : Lit) → IsUnit p clause l → ⊥) → NoneUnitBelow known p (k + 1)
more_unit known p k clause before at none number l h unit = by (split number k h)
  where
    by : (number < k) ⊎ (number ≡ k) → ⊥
    by (inl less) = before number l less unit
    by (inr same) = none l (subst (λ d. IsUnit p d l) (same_clause known k unit.0 clause (ap (slice_get known) (sym same) ∙ unit.1) at) unit.2)

falsified_open : (p : Partial) (xs : List Lit) (l : Lit) → IsFalsified p xs → Occurs l xs → p l.var ≡ None → ⊥
falsified_open p [] l all o still = o
falsified_open p (x ∷ xs) l all (inl here) still =
    let at : p l.var ≡ Some l.neg = subst (λ (k : Lit). p k.var ≡ Some k.neg) here all.0 in
    let no : None ≡ Some l.neg = sym still ∙ at in
    cc
falsified_open p (x ∷ xs) l all (inr there) still = falsified_open p xs l all.1 there still

unit_not_falsified : (p : Partial) (clause : List Lit) (l : Lit) → IsUnit p clause l → IsFalsified p clause → ⊥
unit_not_falsified p clause l unit all = falsified_open p clause l all unit.there unit.still_open

pub found_none : (known : List (List Lit)) (p : Partial) (n : ℕ) → IsFound known p n 0 NoneFound
found_none known p n = (λ number clause h e f. omega arith, λ number l h unit. omega arith)

pub found_more : (known : List (List Lit)) (p : Partial) (n k : ℕ) (f : Found) (s : Standing) → IsFound known p n k f → StandsAt known p k s → UnitWithin n s → (s ≡ Falsified → ⊥) → IsFound known p n (k + 1) (noted f k s)
found_more known p n k (FalsifiedFound number) s is at within filled = is
found_more known p n k f Falsified is at within filled = absurd (filled refl)
found_more known p n k (UnitFound number l) (UnitOf m) is at within filled =
    (more_falsified known p k at.0 is.0 at.1 (unit_not_falsified p at.0 m at.2), is.1, is.2, is.3)
found_more known p n k (UnitFound number l) Other is at within filled =
    (more_falsified known p k at.0 is.0 at.1 at.2.no_falsified, is.1, is.2, is.3)
found_more known p n k NoneFound (UnitOf m) is at within filled =
    (more_falsified known p k at.0 is.0 at.1 (unit_not_falsified p at.0 m at.2), (at.0, at.1, at.2), is.1, within)
found_more known p n k NoneFound Other is at within filled =
    (more_falsified known p k at.0 is.0 at.1 at.2.no_falsified, more_unit known p k at.0 is.1 at.1 at.2.no_unit)
