use Rattle.std.proofs.Common.{Option, subst}
use Rattle.wb_term.specs.Inputs.{Assignment}
use Rattle.wb_explore.specs.Pending.{IsNext}
use Rattle.wb_explore.proofs.Growth.{grown_same}
use Rattle.wb_explore.proofs.Following.{one_comes, one_arrives, not_equal}
use Rattle.wb_explore.proofs.going.one_way.Goals as goal

pub returns : goal.returns
returns c =
    let busy = not_equal c.args.entry.now.key.count c.args.plan.now.pace c.requires.goes in
    let comes = one_comes c.args.image.now c.args.plan.now c.args.entry.now c.states_stay.ensures c.args.graph.now c.args.graph.now (grown_same c.args.graph.now) c.requires.entry busy c.args.state c.requires.state c.requires.state_inputs c.requires.stands in
    let is = subst (λ (w : Option Assignment). IsNext c.args.image.now c.args.plan.now c.args.entry.now c.args.state c.args.entry.now.cond w c.in_ok-one.one) c.in_ok-witness.ensures c.in_ok-one.ensures in
    one_arrives c.args.image.now c.args.plan.now c.args.entry.now c.args.graph.now c.args.graph.now c.requires.entry busy c.args.state c.in_ok-one.one comes is
