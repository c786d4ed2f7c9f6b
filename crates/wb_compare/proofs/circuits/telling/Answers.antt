use Rattle.wb_compare.proofs.Replying.{circuits_grown}
use Rattle.wb_compare.proofs.circuits.telling.Goals as goal

pub returns-clause-circuits : goal.returns-clause-circuits
returns-clause-circuits c = circuits_grown c.args.a.now c.args.b.now c.args.question.now c.args.kinds.now c.circuits_stay.ensures c.args.graph.now c.differ.new.graph c.differ.ensures.grown c.args.circuits.now c.requires.circuits
