-- Descents over one trail: where they stand, and how they end.
use Rattle.std.specs.Prelude.{◌≡◌, ℕ, ◌+◌, ◌≤◌, ◌⊎◌, List, [], ◌∷◌, ◌++◌, length}
use Rattle.wb_gate.specs.declared.gates.Lit.{Lit}
use Rattle.wb_gate.specs.Circuit.{Circuit, variables}
use Rattle.wb_gate.specs.Clauses.{clauses_of}
use Rattle.wb_derive.specs.declared.steps.Step.{Step}
use Rattle.wb_solve.specs.declared.trail.Entry.{Entry}
use Rattle.wb_solve.specs.declared.trail.Reason.TheVariants.{Assumed}
use Rattle.wb_solve.specs.declared.decisions.Descents.{Descents}
use Rattle.wb_solve.specs.declared.decisions.Halt.{Halt}
use Rattle.wb_solve.specs.declared.decisions.Halt.TheVariants as halt
use Rattle.wb_solve.specs.Descent.{IsStable, AreValued, clause_of}
use Rattle.wb_solve.specs.Search.{clauses_in}
use Rattle.wb_solve.specs.Trails.{Track, made, assumed_in}
use Rattle.wb_solve.specs.Propagating.{IsRunningAt, IsDoneTo}
use Rattle.wb_solve.specs.Starting.{IsFresh, IsBlocked}

-- the clause of the negated assumptions is kept, and there is a mark for each variable
pub record IsFitting (c : Circuit) (d : Descents) : Type 0 where
  pub assumed : d.assumed.items ≡ clause_of (assumed_in d.propagation.trail.entries)
  pub marks : length d.marks.stamps ≡ variables c

-- propagation goes on at the head
pub record IsReady (c : Circuit) (steps : List (List Lit)) (head : ℕ) (d : Descents) : Type 0 where
  pub fitting : IsFitting c d
  pub done : IsDoneTo c steps d.propagation head
  pub within : head ≤ length d.propagation.trail.entries
  pub valued : AreValued d.next (made d.propagation.trail.entries)

pub record IsDecided (c : Circuit) (steps : List (List Lit)) (old new : Descents) : Type 0 where
  pub ready : IsReady c steps (length old.propagation.trail.entries) new
  pub longer : length new.propagation.trail.entries ≡ length old.propagation.trail.entries + 1
  pub few : length new.propagation.trail.entries ≤ new.propagation.trail.variables
  pub same_variables : new.propagation.trail.variables ≡ old.propagation.trail.variables

-- the trail without its last assumption and what came after it
pub record IsTakenBack (old new : Track) (x : ℕ) : Type 0 where
  pub entry : Entry
  pub rest : List Entry
  pub whole : old.entries ≡ new.entries ++ (entry ∷ rest)
  pub is_assumed : entry.reason ≡ Assumed
  pub names : entry.lit.var ≡ x
  pub last : assumed_in rest ≡ []
  pub same_variables : new.variables ≡ old.variables

-- a descent ended at a conflict, whose step is the last
pub record IsResumable (c : Circuit) (steps : List Step) (d : Descents) : Type 0 where
  pub before : List Step
  pub step : Step
  pub whole : steps ≡ before ++ (step ∷ [])
  pub clause : step.clause ≡ d.assumed.items
  pub filled : step.clause ≡ [] → ⊥
  pub fitting : IsFitting c d
  pub running : IsRunningAt c (clauses_in before) d.propagation

abbrev pub IsHalted : Circuit → List (List Lit) → Descents → Halt → Type 0
IsHalted c steps d (halt.Conflict number) =
    IsFitting c d × IsBlocked c steps d.propagation number
    × ((assumed_in d.propagation.trail.entries ≡ []) ⊎ IsRunningAt c steps d.propagation)
IsHalted c steps d halt.Values =
    IsFitting c d × IsRunningAt c steps d.propagation
    × IsStable (clauses_of c ++ steps) (made d.propagation.trail.entries) × AreValued c.inputs (made d.propagation.trail.entries)

-- nothing was made true or assumed
pub record IsBegun (c : Circuit) (d : Descents) : Type 0 where
  pub fresh : IsFresh c d.propagation
  pub assumed : d.assumed.items ≡ []
  pub marks : length d.marks.stamps ≡ variables c
  pub next : d.next ≡ 0
