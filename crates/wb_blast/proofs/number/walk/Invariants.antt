use Rattle.std.proofs.Common.{◌≤◌}
use Rattle.wb_blast.specs.Walk.{Walked}
use Rattle.wb_blast.proofs.number.walk.Given as goal

abbrev pub invariant-loop-at : goal.invariant-loop-at
invariant-loop-at l = record {
  within : l.at ≤ l.end;
  walked : Walked l.graph l.bits l.fn.scratch l.scratch l.end l.at l.total;
}

abbrev pub decreases-loop-at : goal.decreases-loop-at
decreases-loop-at l = l.at
