use Rattle.std.proofs.Common.{sym, ◌∙◌}
use Rattle.std.proofs.lemmas.Result.{IfOk-weaker}
use Rattle.wb_explore.specs.Plans.{is_chosen}
use Rattle.wb_replies.proofs.Gathered.{gathers_none, told_of_layer, if_three}
use Rattle.wb_replies.proofs.gathering.replies.Goals as goal

pub returns-then-len-eq0-clause-tells : goal.returns-then-len-eq0-clause-tells
returns-then-len-eq0-clause-tells c = if_three c.no_replies.result _ _ _ _ c.no_replies.ensures.there c.no_replies.ensures.never c.no_replies.ensures.inputs
    (λ x there never only image layer. told_of_layer c.requests_are_one.ensures c.args.graph.now c.no_replies.new.graph image c.args.layer.now (is_chosen c.args.layer.now.plan.kinds c.args.layer.now.plan.power) x layer
    (gathers_none c.args.graph.now c.no_replies.new.graph (is_chosen c.args.layer.now.plan.kinds c.args.layer.now.plan.power) x there (only (is_chosen c.args.layer.now.plan.kinds c.args.layer.now.plan.power)) never c.args.layer.now.requests
    (sym c.len.ensures ∙ c.if-len-eq0.true)))

pub returns-clause-tells : goal.returns-clause-tells
returns-clause-tells c = IfOk-weaker c.gathered.result _ _
    (λ x gathers image layer. told_of_layer c.requests_are_one.ensures c.args.graph.now c.gathered.new.graph image c.args.layer.now (is_chosen c.args.layer.now.plan.kinds c.args.layer.now.plan.power) x layer gathers)
    c.gathered.ensures.gathers
