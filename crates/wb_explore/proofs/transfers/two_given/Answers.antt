use Rattle.std.proofs.Common.{Some, subst}
use Rattle.wb_term.specs.Inputs.{Assignment}
use Rattle.wb_explore.specs.Transfers.{IsGiven}
use Rattle.wb_explore.proofs.Giving.{two_are}
use Rattle.wb_explore.proofs.transfers.two_given.Goals as goal

pub returns : goal.returns
returns c =
    let q = c.args.request.now in
    let is = subst (λ (w : Assignment). IsGiven c.args.image.now c.args.plan.now c.args.kind q.state c.args.here.state c.args.here.cond (Some w) c.in_ok-one.one) c.in_ok-inputs.ensures c.in_ok-one.ensures in
    two_are c.args.image.now c.args.plan.now c.args.kind c.args.graph.now q c.args.here c.args.other c.in_ok-one.one c.in_ok-two.two c.requires.here c.requires.other c.requires.all is c.in_ok-two.ensures
