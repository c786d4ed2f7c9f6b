-- A circuit to which gates were added, and what a literal of it means.
use Rattle.std.specs.Prelude.{◌≡◌, ℕ, ◌+◌, ◌<◌, ◌≤◌, Bool, [], ◌∷◌, ◌++◌, length}
use Rattle.wb_gate.specs.declared.gates.Lit.{Lit}
use Rattle.wb_gate.specs.declared.gates.Gate.{Gate}
use Rattle.wb_gate.specs.Circuit.{Circuit, Assignment, variables, lit_value, Obeys}

-- the circuit with one more gate
abbrev pub with_gate : Circuit → Gate → Circuit
with_gate c gate = record c { gates = c.gates ++ (gate ∷ []) }

-- what holds of a circuit that grew by at most so many gates: each assignment that obeys it obeyed the one before
pub record Extends (old new : Circuit) (room : ℕ) : Type 0 where
  pub obeys : (v : Assignment) → Obeys v new → Obeys v old
  pub same_inputs : new.inputs ≡ old.inputs
  pub same_limit : new.limit ≡ old.limit
  pub longer : length old.gates ≤ length new.gates
  pub most : length new.gates ≤ length old.gates + room

-- the literal names a variable of the circuit, and has this meaning under each assignment that obeys it
pub record IsLit (c : Circuit) (l : Lit) (meaning : Assignment → Bool) : Type 0 where
  pub there : l.var < variables c
  pub value : (v : Assignment) → Obeys v c → lit_value v l ≡ meaning v
