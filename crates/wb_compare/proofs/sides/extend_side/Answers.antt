use Rattle.std.proofs.Common.{[], ◌∷◌, ◌++◌, sym, ap, subst, ◌∙◌, arith}
use Rattle.std.proofs.lemmas.List.{length-append}
use Rattle.wb_rom.specs.declared.images.Image.{Image}
use Rattle.wb_word.specs.declared.sides.Side.{Side}
use Rattle.wb_port.specs.Points.{image_of}
use Rattle.wb_explore.specs.declared.plan.Plan.{Plan}
use Rattle.wb_explore.specs.Explored.{longer_plan}
use Rattle.wb_explore.specs.Layers.{Knows}
use Rattle.wb_compare.specs.Endings.{IsEnded, ended_by}
use Rattle.wb_compare.proofs.Joints.{follows_call, cause_call}
use Rattle.wb_compare.proofs.Causes.{ended_right}
use Rattle.wb_compare.proofs.Talks.{allowed_few}
use Rattle.wb_compare.proofs.sides.extend_side.Goals as goal

pub extend-extended-requires-clause-short : goal.extend-extended-requires-clause-short
extend-extended-requires-clause-short g c = let few = allowed_few c.run_laws.ensures c.args.question.now c.requires.question (c.args.layer.now.plan.kinds ++ c.args.kind ∷ []) c.requires.allowed in let n = length-append c.args.layer.now.plan.kinds (c.args.kind ∷ []) in let m = c.requires.question.few in omega arith

pub extend-extended-requires-clause-knows : goal.extend-extended-requires-clause-knows
extend-extended-requires-clause-knows g c = subst (λ (x : Image). Knows x c.args.layer.now.plan c.args.work.now.purse.reached) (sym (c.image_of-image.ensures ∙ ap (image_of c.args.a.now c.args.b.now) c.side-side.ensures)) c.requires.layer.knows

pub returns-in_ok-keep_overrun-in-Ok-clause-follows : goal.returns-in_ok-keep_overrun-in-Ok-clause-follows
returns-in_ok-keep_overrun-in-Ok-clause-follows g c = follows_call c.run_laws.ensures c.different_values_are_no_more.ensures c.args.a.now c.args.b.now c.args.question.now c.requires.question c.args.layer.now.plan.side (c.args.layer.now.plan.kinds ++ c.args.kind ∷ []) c.requires.allowed c.args.work.now c.extend-extended.new.graph c.extend-extended.new.purse c.in-Ok.longer c.requires.work c.image_of-image.result.now (c.image_of-image.ensures ∙ ap (image_of c.args.a.now c.args.b.now) c.side-side.ensures) (longer_plan c.args.layer.now.plan c.args.kind) (ap (λ (o : Plan). longer_plan o c.args.kind) c.requires.layer.plan) (record { layer = c.in-Ok.ensures.layer; plan = c.in-Ok.ensures.plan; knows = c.in-Ok.ensures.knows; adds = c.extend-extended.ensures.passed; budget = c.extend-extended.ensures.budget; grown = c.extend-extended.ensures.grown; grows = c.in-Ok.ensures.grows; fresh = c.requires.fresh }) c.keep_overrun.new.work c.in_ok-keep_overrun-in-Ok.ensures.kept c.in_ok-keep_overrun-in-Ok.ensures.lawful

pub returns-in-Err-clause-ended : goal.returns-in-Err-clause-ended
returns-in-Err-clause-ended g c = subst (IsEnded c.args.a.now c.args.b.now c.args.question.now (g.O.Oracle.is_sound c.args.oracle.now)) (ap (λ (s : Side). ended_by s c.in-Err.fault) (sym c.side-side.ensures) ∙ sym c.ending_of.ensures) (ended_right c.run_laws.ensures c.args.a.now c.args.b.now c.args.question.now c.requires.question c.args.layer.now.plan.side (c.args.layer.now.plan.kinds ++ c.args.kind ∷ []) c.requires.allowed c.different_values_are_no_more-2.ensures (g.O.Oracle.is_sound c.args.oracle.now) c.args.work.now.purse c.requires.work.budget c.requires.work.reached c.in-Err.fault (cause_call c.args.a.now c.args.b.now c.args.question.now c.args.layer.now.plan.side (c.args.layer.now.plan.kinds ++ c.args.kind ∷ []) (g.O.Oracle.is_sound c.args.oracle.now) c.args.work.now.purse c.in-Err.fault c.image_of-image.result.now (c.image_of-image.ensures ∙ ap (image_of c.args.a.now c.args.b.now) c.side-side.ensures) (longer_plan c.args.layer.now.plan c.args.kind) (ap (λ (o : Plan). longer_plan o c.args.kind) c.requires.layer.plan) c.in-Err.ensures.cause))
