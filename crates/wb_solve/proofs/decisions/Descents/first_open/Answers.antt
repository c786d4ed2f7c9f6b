use Rattle.std.proofs.Common.{sym}
use Rattle.wb_solve.specs.Trails.{made}
use Rattle.wb_solve.proofs.Turning.{valued_more}
use Rattle.wb_solve.proofs.decisions.Descents.first_open.Goals as goal

pub loop-var-preserved : goal.loop-var-preserved
loop-var-preserved c = valued_more (made c.args.self.now.propagation.trail.entries) c.loop-var.var c.in-Some.field-0 c.loop-var.invariant (sym c.in-Some.ensures)
