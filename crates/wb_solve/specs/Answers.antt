-- What an answer of the search says. Hints aside, it is the outcome of the search.
use Rattle.std.specs.Prelude.{◌≡◌, ℕ, ◌+◌, ◌^◌, ◌<◌, ◌≤◌, Bool, List, ◌++◌, length, take, Some}
use Rattle.std.specs.List.{slice_get}
use Rattle.wb_gate.specs.declared.gates.Lit.{Lit}
use Rattle.wb_gate.specs.Circuit.{Circuit, Assignment, variables}
use Rattle.wb_gate.specs.Clauses.{clauses_of, Satisfies}
use Rattle.wb_derive.specs.declared.steps.Step.{Step}
use Rattle.wb_derive.specs.declared.verdicts.Check.TheVariants.{Yes}
use Rattle.wb_derive.specs.Partial.{Partial}
use Rattle.wb_derive.specs.Verdict.{AreLawful, IsVerdict}
use Rattle.wb_solve.specs.declared.search.Answer.{Answer}
use Rattle.wb_solve.specs.declared.search.Answer.TheVariants as answer
use Rattle.wb_solve.specs.Search.{clauses_in, NoneEmpty, Satisfied, Refuted, Stopped, IsOutcome}
use Rattle.wb_solve.specs.Laws.{IsWithin}

-- the assignment gives each variable the value of the list
abbrev pub HasValues : ℕ → List Bool → Assignment → Type 0
HasValues n list v = (x : ℕ) → x < n → slice_get list x ≡ Some (v x)

-- the values with which the search ends, one for each variable, which satisfy the formula
pub record IsSat (c : Circuit) (limit : ℕ) (list : List Bool) : Type 0 where
  pub values : Partial
  pub outcome : IsOutcome c limit (Satisfied values)
  pub covers : length list ≡ variables c
  pub same : (x : ℕ) → x < variables c → values x ≡ slice_get list x
  pub satisfied : (v : Assignment) → HasValues (variables c) list v → Satisfies v c

-- the steps of the search up to the empty one, which the checker accepts, at most as many as the inputs have
-- assignments
pub record IsUnsat (c : Circuit) (limit : ℕ) (steps : List Step) : Type 0 where
  pub outcome : IsOutcome c limit (Refuted (clauses_in steps))
  pub accepted : IsVerdict c steps Yes
  pub few : length steps ≤ limit + 1
  pub bound : length steps ≤ 2 ^ c.inputs

-- As many steps of the search as the limit, all lawful and none empty. No step contains a clause of the formula or an
-- earlier step. The inputs have more assignments than these steps and the next.
pub record IsSpent (c : Circuit) (limit : ℕ) (steps : List Step) : Type 0 where
  pub outcome : IsOutcome c limit (Stopped (clauses_in steps))
  pub lawful : AreLawful c steps (length steps)
  pub count : length steps ≡ limit
  pub filled : NoneEmpty (clauses_in steps)
  pub new : (place : ℕ) (clause : List Lit) → slice_get (clauses_in steps) place ≡ Some clause → (number : ℕ) (known : List Lit) → slice_get (clauses_of c ++ take place (clauses_in steps)) number ≡ Some known → IsWithin known clause → ⊥
  pub bound : limit + 1 < 2 ^ c.inputs

abbrev pub IsAnswer : Circuit → ℕ → Answer → Type 0
IsAnswer c limit (answer.Sat list) = IsSat c limit list
IsAnswer c limit (answer.Unsat steps) = IsUnsat c limit steps
IsAnswer c limit (answer.Spent steps) = IsSpent c limit steps
