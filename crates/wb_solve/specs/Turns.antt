-- What a descent and a search so far come to. No public clause cites this.
use Rattle.std.specs.Prelude.{◌≡◌, ℕ, Bool, false, List, map, length, Option, Some, None}
use Rattle.std.specs.List.{slice_get}
use Rattle.wb_gate.specs.declared.gates.Lit.{Lit}
use Rattle.wb_gate.specs.Circuit.{Circuit, variables}
use Rattle.wb_derive.specs.declared.steps.Step.{Step}
use Rattle.wb_derive.specs.Partial.{Partial, nothing, refute, IsFalsified}
use Rattle.wb_derive.specs.Lawful.{Refutes}
use Rattle.wb_derive.specs.Verdict.{AreLawful}
use Rattle.wb_solve.specs.Descent.{IsStable, AreValued, IsFirstOpen, Conflict, Values, IsDescent}
use Rattle.wb_solve.specs.Search.{clauses_in, AreSteps, NoneEmpty}
use Rattle.wb_solve.specs.Course.{partial_of}

abbrev pub value_or_false : Option Bool → Bool
value_or_false None = false
value_or_false (Some value) = value

-- the first variable below n that has no value
abbrev pub FirstOpen : ℕ → Partial → Option ℕ → Type 0
FirstOpen n p None = AreValued n p
FirstOpen n p (Some x) = IsFirstOpen n p x

abbrev pub FalsifiedAt : List (List Lit) → Partial → ℕ → Type 0
FalsifiedAt known p number = (clause : List Lit) × (slice_get known number ≡ Some clause) × IsFalsified p clause

-- a step with the clause of the negated assumptions, and hints that refute it
abbrev pub IsConflict : Circuit → List (List Lit) → Step → Type 0
IsConflict c known step = IsDescent c.inputs known (Conflict step.clause) × Refutes known step.hints (refute step.clause nothing)

-- values of all variables with which a descent ends
abbrev pub AreEndValues : Circuit → List (List Lit) → List Bool → Type 0
AreEndValues c known list =
    (values : List (Option Bool)) × (list ≡ map value_or_false values) × (length values ≡ variables c)
    × IsStable known (partial_of values) × AreValued c.inputs (partial_of values) × IsDescent c.inputs known (Values (partial_of values))

-- so many steps of a search that goes on
pub record IsSearching (c : Circuit) (steps : List Step) : Type 0 where
  pub steps_so_far : AreSteps c (clauses_in steps)
  pub filled : NoneEmpty (clauses_in steps)
  pub lawful : AreLawful c steps (length steps)
