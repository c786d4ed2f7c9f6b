-- What is true of every circuit.
use Rattle.std.specs.Prelude.{◌≡◌, ℕ, ◌<◌}
use Rattle.wb_gate.specs.Circuit.{Circuit, Assignment, IsCircuit, Obeys, variables}
use Rattle.wb_gate.specs.Clauses.{gates_clauses, SatisfiesAll}

-- the assignment gives the input variables these values
abbrev pub HasInputs : Circuit → Assignment → Assignment → Type 0
HasInputs c inputs v = (x : ℕ) → x < c.inputs → v x ≡ inputs x

-- An assignment satisfies the gates' clauses exactly where each gate's variable has the gate's value.
pub record ClausesSayTheGates : Type 0 where
  pub obeyed : (c : Circuit) (v : Assignment) → SatisfiesAll v (gates_clauses c) → Obeys v c
  pub satisfied : (c : Circuit) (v : Assignment) → Obeys v c → SatisfiesAll v (gates_clauses c)

-- For any values of the inputs there is an assignment that obeys the gates, and on the variables of the circuit
-- there is one alone.
pub record InputsDecide : Type 0 where
  pub some : (c : Circuit) (inputs : Assignment) → IsCircuit c → (v : Assignment) × Obeys v c × HasInputs c inputs v
  pub one : (c : Circuit) (inputs v w : Assignment) → IsCircuit c → Obeys v c → HasInputs c inputs v → Obeys w c → HasInputs c inputs w → (x : ℕ) → x < variables c → v x ≡ w x
