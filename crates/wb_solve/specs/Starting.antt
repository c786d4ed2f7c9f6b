-- The start of a search: the literal of the goal is made true.
use Rattle.std.specs.Prelude.{◌≡◌, ℕ, List, [], ◌++◌, length, Option, Some, None}
use Rattle.wb_gate.specs.declared.gates.Lit.{Lit}
use Rattle.wb_gate.specs.Circuit.{Circuit, IsCircuit, variables}
use Rattle.wb_gate.specs.Clauses.{clauses_of}
use Rattle.wb_solve.specs.declared.propagation.Propagation.{Propagation}
use Rattle.wb_solve.specs.Turns.{FalsifiedAt}
use Rattle.wb_solve.specs.Trails.{AllNamed, made, AreJust, AreStable, assumed_in}
use Rattle.wb_solve.specs.Linking.{AreLinked}
use Rattle.wb_solve.specs.Propagating.{IsDoneTo}

-- the gates are linked, and nothing was made true
pub record IsFresh (c : Circuit) (s : Propagation) : Type 0 where
  pub circuit : IsCircuit c
  pub linked : AreLinked c (length c.gates) s.links
  pub variable_count : s.trail.variables ≡ variables c
  pub none_made : s.trail.entries ≡ []

-- a clause is falsified, after assumptions at which none was falsified or unit
pub record IsBlocked (c : Circuit) (steps : List (List Lit)) (s : Propagation) (number : ℕ) : Type 0 where
  pub named : AllNamed (variables c) (clauses_of c)
  pub variable_count : s.trail.variables ≡ variables c
  pub just : AreJust c.inputs (clauses_of c ++ steps) s.trail.entries
  pub stable : AreStable (clauses_of c ++ steps) s.trail.entries
  pub falsified : FalsifiedAt (clauses_of c ++ steps) (made s.trail.entries) number

-- nothing was assumed, and propagation is to begin, or this clause is falsified
abbrev pub IsStarted : Circuit → Propagation → Option ℕ → Type 0
IsStarted c s None = IsDoneTo c [] s 0 × (assumed_in s.trail.entries ≡ [])
IsStarted c s (Some number) = IsBlocked c [] s number × (assumed_in s.trail.entries ≡ [])
