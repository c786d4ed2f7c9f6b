use Rattle.wb_solve.specs.Descent.{AreValued}
use Rattle.wb_solve.specs.Trails.{made}
use Rattle.wb_solve.proofs.decisions.Descents.first_open.Given as goal

abbrev pub invariant-loop-var : goal.invariant-loop-var
invariant-loop-var l = AreValued l.var (made l.self.propagation.trail.entries)
