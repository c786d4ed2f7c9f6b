use Rattle.std.proofs.Common.{[], length, refl}
use Rattle.wb_explore.specs.Explored.{first_plan}
use Rattle.wb_explored.proofs.Rooms.{within_empty, within_more}
use Rattle.wb_explored.proofs.Stages.{first_stage, stops_first}
use Rattle.wb_explored.proofs.exploring.begun.Goals as goal

pub first-requires-clause-within : goal.first-requires-clause-within
first-requires-clause-within g c =
    within_more c.args.graph.now c.args.setting.power (length c.args.purse.now.reached)
    (within_empty c.args.graph.now c.args.setting.power (length c.args.purse.now.reached) c.requires.empty)

pub returns-in-Ok-clause-layer : goal.returns-in-Ok-clause-layer
returns-in-Ok-clause-layer g c =
    first_stage c.points_are_passed_after_accesses.ensures c.transfers_join_in_order.ensures c.args.graph.now c.first.new.graph c.args.image.now
    (first_plan c.args.setting.side c.args.setting.pace c.args.setting.power) c.in-Ok.layer c.args.purse.now.reached c.first.new.purse.reached
    (within_empty c.args.graph.now c.args.setting.power (length c.args.purse.now.reached) c.requires.empty) c.requires.words c.requires.none
    c.in-Ok.ensures.layer c.in-Ok.ensures.plan c.in-Ok.ensures.knows c.first.ensures.passed c.first.ensures.grown c.in-Ok.ensures.grows

pub returns-in-Err-clause-cause : goal.returns-in-Err-clause-cause
returns-in-Err-clause-cause g c =
    stops_first c.args.image.now (first_plan c.args.setting.side c.args.setting.pace c.args.setting.power) [] (g.O.Oracle.is_sound c.args.oracle.now)
    c.args.purse.now c.args.purse.now.budget c.in-Err.fault refl c.in-Err.ensures.cause
