use Rattle.std.proofs.Common.{◌+◌, ◌-◌, ◌<◌, ◌≤◌, length}
use Rattle.wb_gate.specs.Clauses.{clauses_before}
use Rattle.wb_gate.proofs.formulas.Formula.gate_of_clause.Given as goal

abbrev pub invariant-loop-low : goal.invariant-loop-low
invariant-loop-low l = record {
  before : clauses_before l.self l.low ≤ l.number;
  within : l.high < length l.self.gates → l.number < clauses_before l.self (l.high + 1);
  in_order : l.low ≤ l.high;
  in_range : l.high ≤ length l.self.gates;
}

abbrev pub decreases-loop-low : goal.decreases-loop-low
decreases-loop-low l = l.high - l.low
