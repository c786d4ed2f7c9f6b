use Rattle.std.proofs.Common.{◌≤◌, length}
use Rattle.wb_solve.specs.Search.{clauses_in}
use Rattle.wb_solve.specs.Trails.{made}
use Rattle.wb_solve.specs.Propagating.{IsRunningAt, AreVisited, Grows}
use Rattle.wb_solve.proofs.propagation.Propagation.visit_users.Given as goal

abbrev pub invariant-loop-end : goal.invariant-loop-end
invariant-loop-end l = record {
  running : IsRunningAt l.formula (clauses_in l.steps) l.self;
  visited : AreVisited l.formula l.var l.end (made l.initial.self.trail.entries) (made l.self.trail.entries);
  within : l.end ≤ length l.formula.gates;
  grows : Grows l.initial.self.trail.entries l.self.trail.entries;
}

abbrev pub decreases-loop-end : goal.decreases-loop-end
decreases-loop-end l = l.end
