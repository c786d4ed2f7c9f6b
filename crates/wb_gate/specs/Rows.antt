-- How a formula keeps its gates: each with the number of clauses up to it. No public clause cites this.
use Rattle.std.specs.Prelude.{◌≡◌, ℕ, ◌+◌, ◌≤◌, ◌^◌, List, map, Some}
use Rattle.std.specs.List.{slice_get}
use Rattle.wb_gate.specs.declared.gates.Gate.{Gate}
use Rattle.wb_gate.specs.declared.gates.Goal.{Goal}
use Rattle.wb_gate.specs.declared.rows.Row.{Row}
use Rattle.wb_gate.specs.Circuit.{Circuit, IsCircuit}
use Rattle.wb_gate.specs.Clauses.{clauses_before}

abbrev pub gates_of : List Row → List Gate
gates_of rows = map (λ row. row.gate) rows

abbrev pub circuit_of : ℕ → ℕ → List Row → Goal → Circuit
circuit_of inputs limit rows goal =
    record { inputs = inputs; limit = limit; gates = gates_of rows; goal = goal }

-- each row ends at the number of the clauses of all gates up to its own
pub record IsCounted (c : Circuit) (rows : List Row) : Type 0 where
  pub ends : (k : ℕ) (row : Row) → slice_get rows k ≡ Some row → row.end ≡ clauses_before c (k + 1)

pub record IsFormula (inputs limit : ℕ) (rows : List Row) (goal : Goal) : Type 0 where
  pub circuit : IsCircuit (circuit_of inputs limit rows goal)
  pub counted : IsCounted (circuit_of inputs limit rows goal) rows
  pub inputs_few : inputs ≤ 8192
  pub limit_few : limit ≤ 2 ^ 31
