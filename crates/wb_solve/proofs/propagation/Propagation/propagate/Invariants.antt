use Rattle.std.proofs.Common.{◌-◌, ◌≤◌, length}
use Rattle.wb_solve.specs.Search.{clauses_in}
use Rattle.wb_solve.specs.Propagating.{IsDoneTo, Grows}
use Rattle.wb_solve.proofs.propagation.Propagation.propagate.Given as goal

abbrev pub invariant-loop-next : goal.invariant-loop-next
invariant-loop-next l = record {
  done : IsDoneTo l.formula (clauses_in l.steps) l.self l.next;
  within : l.next ≤ length l.self.trail.entries;
  grows : Grows l.initial.self.trail.entries l.self.trail.entries;
}

abbrev pub decreases-loop-next : goal.decreases-loop-next
decreases-loop-next l = l.self.trail.variables - l.next
