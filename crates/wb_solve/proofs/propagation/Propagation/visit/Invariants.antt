use Rattle.std.proofs.Common.{◌-◌, length}
use Rattle.wb_solve.specs.Search.{clauses_in}
use Rattle.wb_solve.specs.Propagating.{IsRunningAt, Grows}
use Rattle.wb_solve.proofs.propagation.Propagation.visit.Given as goal

abbrev pub invariant-loop-place : goal.invariant-loop-place
invariant-loop-place l = record {
  running : IsRunningAt l.formula (clauses_in l.steps) l.self;
  grows : Grows l.initial.self.trail.entries l.self.trail.entries;
}

abbrev pub decreases-loop-place : goal.decreases-loop-place
decreases-loop-place l = l.self.trail.variables - length l.self.trail.entries
