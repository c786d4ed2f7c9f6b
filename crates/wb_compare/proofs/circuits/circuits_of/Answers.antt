use Rattle.wb_compare.proofs.Replying.{circuits_pair}
use Rattle.wb_compare.proofs.circuits.circuits_of.Goals as goal

pub replies-requires-2-clause-each : goal.replies-requires-2-clause-each
replies-requires-2-clause-each c = (c.layers_stay.ensures c.args.graph.now c.replies.new.graph c.replies.ensures.grown c.args.b.now c.args.pair.now.second c.requires.layers.second).each

pub returns-clause-circuits : goal.returns-clause-circuits
returns-clause-circuits c = circuits_pair c.args.a.now c.args.b.now c.args.question.now c.args.pair.now c.circuits_stay.ensures c.args.graph.now c.replies.new.graph c.replies-2.new.graph c.requires.layers c.replies-2.ensures.grown c.in_ok-first.first c.in_ok-second.second c.in_ok-first.ensures.there c.in_ok-second.ensures.there (c.in_ok-first.ensures.tells c.args.a.now c.requires.layers.first) (c.in_ok-second.ensures.tells c.args.b.now (c.layers_stay.ensures c.args.graph.now c.replies.new.graph c.replies.ensures.grown c.args.b.now c.args.pair.now.second c.requires.layers.second)) c.in_ok-first.ensures.inputs c.in_ok-second.ensures.inputs
