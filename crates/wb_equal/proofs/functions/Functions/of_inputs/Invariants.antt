use Rattle.std.proofs.Common.{◌≤◌, length}
use Rattle.wb_gate.specs.Circuit.{Assignment}
use Rattle.wb_equal.specs.Functions.{AreRight}
use Rattle.wb_equal.proofs.functions.Functions.of_inputs.Given as goal

abbrev pub invariant-loop-input : goal.invariant-loop-input
invariant-loop-input l = (length l.functions.variables ≤ l.input) × ((v : Assignment) → AreRight v l.functions)
