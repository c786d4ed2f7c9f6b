use Rattle.std.proofs.Common.{Option, Some, ap, subst}
use Rattle.wb_term.specs.Inputs.{Assignment}
use Rattle.wb_explore.specs.Transfers.{IsGiven}
use Rattle.wb_explore.proofs.Giving.{one_is}
use Rattle.wb_explore.proofs.transfers.one_given.Goals as goal

pub returns : goal.returns
returns c =
    let q = c.args.request.now in
    let is = subst (λ (w : Assignment). IsGiven c.args.image.now c.args.plan.now c.args.kind q.state c.args.state q.cond (Some w) c.in_ok-one.one) c.in_ok-inputs.ensures c.in_ok-one.ensures in
    one_is c.args.image.now c.args.plan.now c.args.kind c.args.graph.now q c.args.state c.in_ok-one.one c.requires.way is
