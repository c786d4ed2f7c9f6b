use Rattle.wb_point.proofs.Transfers.{dialogue_more}
use Rattle.wb_point.specs.Dialogues.{start_under}
use Rattle.wb_point.proofs.dialogues.dialogue_of.Goals as goal

pub loop-place-preserved : goal.loop-place-preserved
loop-place-preserved c =
    dialogue_more c.args.inputs.now (start_under c.args.inputs.now c.args.power) c.args.kinds.now c.list-kind-items.result.now c.loop-place.place _
    c.loop-place.dialogue c.push.new.self c.access_of.result c.list-kind-items.ensures c.loop-place-test.true c.loop-place.invariant
    c.access_of.ensures c.in_ok-push.ensures.ok
