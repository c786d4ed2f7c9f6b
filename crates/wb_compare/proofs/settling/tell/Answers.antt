use Rattle.wb_compare.proofs.Replying.{alike_never}
use Rattle.wb_compare.proofs.settling.tell.Goals as goal

pub returns-in-Never-clause-alike : goal.returns-in-Never-clause-alike
returns-in-Never-clause-alike g c = alike_never c.args.a.now c.args.b.now c.args.question.now c.args.kinds.now c.differences_are_of_replies.ensures c.args.graph.now c.args.circuits.now c.requires.circuits c.args.bit c.requires.telling c.in_ok-found.found c.in-Never.is c.in_ok-found.ensures.found
