use Rattle.wb_gate.proofs.Counts.{pushed_means}
use Rattle.wb_gate.proofs.formulas.Formula.add.Goals as goal

pub returns-clause-means : goal.returns-clause-means
returns-clause-means c =
    rw (c.in_ok-append.ensures.ok, c.next_variable-lit.ensures) (pushed_means c.args.self.now c.args.gate)
