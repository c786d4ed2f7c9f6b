-- What is true of every propagation, every descent and every search.
use Rattle.std.specs.Prelude.{◌≡◌, ℕ, ◌^◌, ◌<◌, ◌≤◌, List, [], ◌++◌, length, Some}
use Rattle.std.specs.List.{slice_get}
use Rattle.wb_gate.specs.declared.gates.Lit.{Lit}
use Rattle.wb_gate.specs.Circuit.{Circuit, Assignment, IsCircuit, variables}
use Rattle.wb_gate.specs.Clauses.{clauses_of, Satisfies}
use Rattle.wb_derive.specs.Partial.{Partial, Occurs}
use Rattle.wb_solve.specs.Descent.{SomeFalsified, IsStable, AreValued, Ended, Conflict, Descends, DescendsInSomeOrder, Propagates}
use Rattle.wb_solve.specs.Search.{EndsNext, AreSteps, NoneEmpty, Outcome, IsOutcome}

-- From given values, in whatever order unit clauses are taken, propagation meets a falsified clause in every order
-- or in none, and without one it ends with the same values.
pub record PropagationIsConfluent : Type 0 where
  pub same_values : (clauses : List (List Lit)) (p q r : Partial) → Propagates clauses p q → IsStable clauses q → Propagates clauses p r → IsStable clauses r → q ≡ r
  pub no_conflict : (clauses : List (List Lit)) (p q r : Partial) → Propagates clauses p q → IsStable clauses q → Propagates clauses p r → SomeFalsified clauses r → ⊥

-- A descent ends in one way, in whatever order unit clauses are taken.
pub record OrderIsFree : Type 0 where
  pub one_end : (inputs : ℕ) (clauses : List (List Lit)) (end other : Ended) (p : Partial) (assumed : List ℕ) → DescendsInSomeOrder inputs clauses end p assumed → DescendsInSomeOrder inputs clauses other p assumed → end ≡ other
  pub some_order : (inputs : ℕ) (clauses : List (List Lit)) (end : Ended) (p : Partial) (assumed : List ℕ) → Descends inputs clauses end p assumed → DescendsInSomeOrder inputs clauses end p assumed

-- the assignment gives the variables below n the values that they have
abbrev pub Agrees : ℕ → Partial → Assignment → Type 0
Agrees n p v = (x : ℕ) → x < n → p x ≡ Some (v x)

-- Where no clause is falsified or unit and the inputs have values, all variables have, and they satisfy the formula.
pub record StableValuesSatisfy : Type 0 where
  pub valued : (c : Circuit) (steps : List (List Lit)) (p : Partial) → IsCircuit c → IsStable (clauses_of c ++ steps) p → AreValued c.inputs p → AreValued (variables c) p
  pub satisfied : (c : Circuit) (steps : List (List Lit)) (p : Partial) (v : Assignment) → IsCircuit c → IsStable (clauses_of c ++ steps) p → AreValued c.inputs p → Agrees (variables c) p v → Satisfies v c

-- each literal of the one clause stands in the other
abbrev pub IsWithin : List Lit → List Lit → Type 0
IsWithin part whole = (l : Lit) → Occurs l part → Occurs l whole

-- A step that isn't empty contains no clause of the formula and no earlier step. There are at most as many steps as
-- the inputs have assignments, and fewer where none is empty.
pub record StepsAreFew : Type 0 where
  pub new : (c : Circuit) (steps : List (List Lit)) (clause : List Lit) → EndsNext c steps (Conflict clause) → (clause ≡ [] → ⊥) → (number : ℕ) (known : List Lit) → slice_get (clauses_of c ++ steps) number ≡ Some known → IsWithin known clause → ⊥
  pub few : (c : Circuit) (steps : List (List Lit)) → AreSteps c steps → length steps ≤ 2 ^ c.inputs
  pub filled : (c : Circuit) (steps : List (List Lit)) → AreSteps c steps → NoneEmpty steps → length steps < 2 ^ c.inputs

-- A search has one outcome at a limit.
pub record OutcomesAreOne : Type 0 where
  pub one : (c : Circuit) (limit : ℕ) (outcome other : Outcome) → IsOutcome c limit outcome → IsOutcome c limit other → outcome ≡ other
