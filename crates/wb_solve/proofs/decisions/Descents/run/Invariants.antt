use Rattle.std.proofs.Common.{◌-◌, length}
use Rattle.wb_solve.specs.Search.{clauses_in}
use Rattle.wb_solve.specs.Halting.{IsReady}
use Rattle.wb_solve.proofs.decisions.Descents.run.Given as goal

abbrev pub invariant-loop-number : goal.invariant-loop-number
invariant-loop-number l = IsReady l.formula (clauses_in l.steps) l.next l.self

abbrev pub decreases-loop-number : goal.decreases-loop-number
decreases-loop-number l = l.self.propagation.trail.variables - length l.self.propagation.trail.entries
