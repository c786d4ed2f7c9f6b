use Rattle.std.proofs.Common.{◌≡◌, length}
use Rattle.wb_solve.specs.Propagating.{Grows}
use Rattle.wb_solve.proofs.decisions.take_back.Given as goal

abbrev pub invariant-loop-entry : goal.invariant-loop-entry
invariant-loop-entry l = record {
  grows : Grows l.trail.entries l.initial.trail.entries;
  same_variables : l.trail.variables ≡ l.initial.trail.variables;
}

abbrev pub decreases-loop-entry : goal.decreases-loop-entry
decreases-loop-entry l = length l.trail.entries
