use Rattle.std.proofs.Common.{[], refl, sym, subst}
use Rattle.wb_explore.specs.Explored.{first_plan}
use Rattle.wb_compare.specs.Endings.{IsEnded}
use Rattle.wb_compare.proofs.Joints.{follows_call, cause_call}
use Rattle.wb_compare.proofs.Causes.{ended_right}
use Rattle.wb_compare.proofs.sides.begin_side.Goals as goal

pub returns-in_ok-keep_overrun-in-Ok-clause-follows : goal.returns-in_ok-keep_overrun-in-Ok-clause-follows
returns-in_ok-keep_overrun-in-Ok-clause-follows g c = follows_call c.run_laws.ensures c.different_values_are_no_more.ensures c.args.a.now c.args.b.now c.args.question.now c.requires.question c.args.side [] tt c.args.work.now c.first-begun.new.graph c.first-begun.new.purse c.in-Ok.layer c.requires.work c.image_of-image.result.now c.image_of-image.ensures (first_plan c.args.side c.args.question.now.k c.args.question.now.power) refl (record { layer = c.in-Ok.ensures.layer; plan = c.in-Ok.ensures.plan; knows = c.in-Ok.ensures.knows; adds = c.first-begun.ensures.passed; budget = c.first-begun.ensures.budget; grown = c.first-begun.ensures.grown; grows = c.in-Ok.ensures.grows; fresh = c.requires.fresh }) c.keep_overrun.new.work c.in_ok-keep_overrun-in-Ok.ensures.kept c.in_ok-keep_overrun-in-Ok.ensures.lawful

pub returns-in-Err-clause-ended : goal.returns-in-Err-clause-ended
returns-in-Err-clause-ended g c = subst (IsEnded c.args.a.now c.args.b.now c.args.question.now (g.O.Oracle.is_sound c.args.oracle.now)) (sym c.ending_of.ensures) (ended_right c.run_laws.ensures c.args.a.now c.args.b.now c.args.question.now c.requires.question c.args.side [] tt c.different_values_are_no_more-2.ensures (g.O.Oracle.is_sound c.args.oracle.now) c.args.work.now.purse c.requires.work.budget c.requires.work.reached c.in-Err.fault (cause_call c.args.a.now c.args.b.now c.args.question.now c.args.side [] (g.O.Oracle.is_sound c.args.oracle.now) c.args.work.now.purse c.in-Err.fault c.image_of-image.result.now c.image_of-image.ensures (first_plan c.args.side c.args.question.now.k c.args.question.now.power) refl c.in-Err.ensures.cause))
