-- What propagation from gate to gate keeps.
use Rattle.std.specs.Prelude.{◌≡◌, ℕ, ◌+◌, ◌≤◌, List, [], ◌++◌, length, take, Option, Some, None}
use Rattle.std.specs.List.{slice_get}
use Rattle.wb_gate.specs.declared.gates.Lit.{Lit}
use Rattle.wb_gate.specs.declared.gates.Gate.{Gate}
use Rattle.wb_gate.specs.Circuit.{Circuit, variables, variable}
use Rattle.wb_gate.specs.Clauses.{gate_clauses, clauses_of}
use Rattle.wb_derive.specs.Partial.{Partial}
use Rattle.wb_solve.specs.declared.trail.Entry.{Entry}
use Rattle.wb_solve.specs.declared.links.Links.{Links}
use Rattle.wb_solve.specs.declared.propagation.Propagation.{Propagation}
use Rattle.wb_solve.specs.Turns.{FalsifiedAt}
use Rattle.wb_solve.specs.Trails.{Track, AllNamed, made, AreJust, assumed_in}
use Rattle.wb_solve.specs.Linking.{Names, operands, AreLinked}
use Rattle.wb_solve.specs.Guarding.{AreGuarded, NoneBlank, AreSettled, AreHeld}

-- what holds between the visits of gates
pub record IsRunning (c : Circuit) (steps : List (List Lit)) (links : Links) (track : Track) : Type 0 where
  pub named : AllNamed (variables c) (clauses_of c)
  pub filled : NoneBlank (clauses_of c)
  pub linked : AreLinked c (length c.gates) links
  pub variable_count : track.variables ≡ variables c
  pub settled : AreSettled (clauses_of c) track.entries
  pub just : AreJust c.inputs (clauses_of c ++ steps) track.entries
  pub held : AreHeld steps track.entries

-- the trail grew by entries that are no assumptions
abbrev pub Grows : List Entry → List Entry → Type 0
Grows old new = (added : List Entry) × (new ≡ old ++ added) × (assumed_in added ≡ [])

abbrev pub IsRunningAt : Circuit → List (List Lit) → Propagation → Type 0
IsRunningAt c steps s = IsRunning c steps s.links s.trail

-- the clauses of the gate of a number are guarded
abbrev pub IsGuardedAt : Circuit → ℕ → Partial → Partial → Type 0
IsGuardedAt c number p q = (gate : Gate) → slice_get c.gates number ≡ Some gate → AreGuarded (gate_clauses (variable (c.inputs + number)) gate) p q

-- a clause is falsified, and this is its number
abbrev pub IsFallen : Circuit → List (List Lit) → Propagation → ℕ → Type 0
IsFallen c steps s clause = IsRunningAt c steps s × FalsifiedAt (clauses_of c ++ steps) (made s.trail.entries) clause

-- what the visit of a gate comes to
abbrev pub IsVisit : Circuit → List (List Lit) → Propagation → ℕ → Option ℕ → Type 0
IsVisit c steps s number None = IsRunningAt c steps s × IsGuardedAt c number (made s.trail.entries) (made s.trail.entries)
IsVisit c steps s number (Some clause) = IsFallen c steps s clause

-- what the visit of the gate that has a variable comes to
abbrev pub IsOwnVisit : Circuit → List (List Lit) → Propagation → ℕ → Option ℕ → Type 0
IsOwnVisit c steps s x None = IsRunningAt c steps s × ((k : ℕ) → c.inputs + k ≡ x → IsGuardedAt c k (made s.trail.entries) (made s.trail.entries))
IsOwnVisit c steps s x (Some clause) = IsFallen c steps s clause

-- the gates from the end on that name a variable are guarded
abbrev pub AreVisited : Circuit → ℕ → ℕ → Partial → Partial → Type 0
AreVisited c x end p q = (k : ℕ) (gate : Gate) → end ≤ k → slice_get c.gates k ≡ Some gate → Names x (operands gate) → IsGuardedAt c k p q

-- what the visits of the gates that name a variable come to, which began with the values of p
abbrev pub AreVisits : Circuit → List (List Lit) → Partial → Propagation → ℕ → Option ℕ → Type 0
AreVisits c steps p s x None = IsRunningAt c steps s × AreVisited c x 0 p (made s.trail.entries)
AreVisits c steps p s x (Some clause) = IsFallen c steps s clause

-- the entries before this place are done
abbrev pub IsDoneTo : Circuit → List (List Lit) → Propagation → ℕ → Type 0
IsDoneTo c steps s head = IsRunningAt c steps s × AreGuarded (clauses_of c) (made (take head s.trail.entries)) (made s.trail.entries)

-- what the visits for an entry come to, or those for all entries
abbrev pub IsPassed : Circuit → List (List Lit) → Propagation → ℕ → Option ℕ → Type 0
IsPassed c steps s head None = IsDoneTo c steps s head
IsPassed c steps s head (Some clause) = IsFallen c steps s clause
