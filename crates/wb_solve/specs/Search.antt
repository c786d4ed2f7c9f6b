-- The search: descents one after the other. Each clause with which a descent ends is the next step, and the next
-- descent has it too. The search ends at the empty clause or at values.
use Rattle.std.specs.Prelude.{◌≡◌, ℕ, ◌+◌, ◌<◌, ◌≤◌, List, [], ◌++◌, length, map, take, Some}
use Rattle.std.specs.List.{slice_get}
use Rattle.wb_gate.specs.declared.gates.Lit.{Lit}
use Rattle.wb_gate.specs.Circuit.{Circuit}
use Rattle.wb_gate.specs.Clauses.{clauses_of}
use Rattle.wb_derive.specs.declared.steps.Step.{Step}
use Rattle.wb_derive.specs.Partial.{Partial}
use Rattle.wb_solve.specs.Descent.{Ended, Conflict, Values, IsDescent}

-- the clauses of steps
abbrev pub clauses_in : List Step → List (List Lit)
clauses_in steps = map (λ s. s.clause) steps

-- the next descent of a search that has these steps ends so
abbrev pub EndsNext : Circuit → List (List Lit) → Ended → Type 0
EndsNext c steps end = IsDescent c.inputs (clauses_of c ++ steps) end

-- these are the first steps of the search, and none of them is empty but perhaps the last
pub record AreSteps (c : Circuit) (steps : List (List Lit)) : Type 0 where
  pub descents : (place : ℕ) (clause : List Lit) → slice_get steps place ≡ Some clause → EndsNext c (take place steps) (Conflict clause)
  pub goes_on : (place : ℕ) (clause : List Lit) → place + 1 < length steps → slice_get steps place ≡ Some clause → clause ≡ [] → ⊥

-- the clause of no step is empty
abbrev pub NoneEmpty : List (List Lit) → Type 0
NoneEmpty steps = (place : ℕ) (clause : List Lit) → slice_get steps place ≡ Some clause → clause ≡ [] → ⊥

-- what a search says that may have so many steps
pub data Outcome : Type 0 where
  Satisfied : Partial → Outcome
  Refuted : List (List Lit) → Outcome
  Stopped : List (List Lit) → Outcome

-- The search ends at values after at most so many steps; or one of the first steps, up to the one after the limit,
-- is the empty clause; or the step after the limit isn't empty.
abbrev pub IsOutcome : Circuit → ℕ → Outcome → Type 0
IsOutcome c limit (Satisfied p) = (steps : List (List Lit)) × AreSteps c steps × NoneEmpty steps × (length steps ≤ limit) × EndsNext c steps (Values p)
IsOutcome c limit (Refuted steps) = AreSteps c steps × (length steps ≤ limit + 1) × ((place : ℕ) × (length steps ≡ place + 1) × (slice_get steps place ≡ Some []))
IsOutcome c limit (Stopped steps) = AreSteps c steps × NoneEmpty steps × (length steps ≡ limit) × ((clause : List Lit) × (clause ≡ [] → ⊥) × EndsNext c steps (Conflict clause))
