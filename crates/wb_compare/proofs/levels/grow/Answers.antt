use Rattle.std.proofs.Common.{Option, List, [], ◌∷◌, ◌++◌, subst, ◌∙◌, rules}
use Rattle.wb_word.specs.declared.sides.Side.TheVariants as side
use Rattle.wb_solve.specs.declared.search.Answer.{Answer}
use Rattle.wb_explore.specs.Faults.{StillTells}
use Rattle.wb_compare.specs.Endings.{EndTells}
use Rattle.wb_compare.proofs.Joints.{tells_on, still_on, fresh_side, fresh_plan, fresh_second, spare_second, layers_both, room_both, settles_both, plan_here, side_here}
use Rattle.wb_compare.proofs.Going.{side_later}
use Rattle.wb_compare.specs.Growing.{kinds_of}
use Rattle.wb_compare.proofs.levels.grow.Goals as goal

pub extend_side-requires-clause-fresh : goal.extend_side-requires-clause-fresh
extend_side-requires-clause-fresh g c = fresh_plan c.args.question.now side.A (kinds_of c.args.pair.now) c.args.kind c.args.pair.now.first.plan c.requires.pair.first.plan c.args.work.now.purse.reached (fresh_side c.args.question.now side.A (kinds_of c.args.pair.now ++ c.args.kind ∷ []) c.args.work.now.purse.reached c.requires.fresh)

pub extend_side-requires-2-clause-spare : goal.extend_side-requires-2-clause-spare
extend_side-requires-2-clause-spare g c = spare_second c.run_laws.ensures c.layers_stay.ensures c.args.a.now c.args.b.now c.args.question.now c.requires.question (kinds_of c.args.pair.now ++ c.args.kind ∷ []) c.requires.allowed c.args.work.now c.extend_side.new.work c.in_ok-first.first (plan_here c.args.a.now c.args.b.now c.args.question.now side.A (kinds_of c.args.pair.now) c.args.kind c.args.work.now c.extend_side.new.work c.args.pair.now.first.plan c.in_ok-first.first c.requires.pair.first.plan c.in_ok-first.ensures.follows) c.requires.spare

pub extend_side-requires-2-clause-layer : goal.extend_side-requires-2-clause-layer
extend_side-requires-2-clause-layer g c = side_here c.args.a.now c.args.b.now c.args.question.now c.extend_side.new.work side.B (kinds_of c.args.pair.now) c.args.pair.now.second (side_later c.args.a.now c.args.b.now c.args.question.now c.layers_stay.ensures c.args.work.now c.extend_side.new.work c.in_ok-first.ensures.follows.later side.B (kinds_of c.args.pair.now) c.args.pair.now.second c.requires.pair.second)

pub extend_side-requires-2-clause-fresh : goal.extend_side-requires-2-clause-fresh
extend_side-requires-2-clause-fresh g c = fresh_plan c.args.question.now side.B (kinds_of c.args.pair.now) c.args.kind c.args.pair.now.second.plan c.requires.pair.second.plan c.extend_side.new.work.purse.reached (fresh_second c.run_laws.ensures c.layers_stay.ensures c.args.a.now c.args.b.now c.args.question.now c.requires.question (kinds_of c.args.pair.now ++ c.args.kind ∷ []) c.requires.allowed c.args.work.now c.extend_side.new.work c.in_ok-first.first (plan_here c.args.a.now c.args.b.now c.args.question.now side.A (kinds_of c.args.pair.now) c.args.kind c.args.work.now c.extend_side.new.work c.args.pair.now.first.plan c.in_ok-first.first c.requires.pair.first.plan c.in_ok-first.ensures.follows) c.requires.fresh)

pub returns-in_err-second-clause-last : goal.returns-in_err-second-clause-last
returns-in_err-second-clause-last g c = let h = tells_on (g.O.Oracle.held c.args.oracle.now) (g.O.Oracle.given c.args.oracle.now) (g.O.Oracle.given c.extend_side.new.oracle) (g.O.Oracle.given c.extend_side-2.new.oracle) c.in_ok-first.ensures.tells c.in_err-second.field-0.0 (subst (λ (o : Option (List Answer)). EndTells o (g.O.Oracle.given c.extend_side.new.oracle) (g.O.Oracle.given c.extend_side-2.new.oracle) c.in_err-second.field-0.0) c.in_ok-first.ensures.held c.in_err-second.ensures.last) in search (rules, h)

pub settle-requires-clause-layers : goal.settle-requires-clause-layers
settle-requires-clause-layers g c = layers_both c.run_laws.ensures c.layers_stay.ensures c.args.a.now c.args.b.now c.args.question.now c.requires.question (kinds_of c.args.pair.now ++ c.args.kind ∷ []) c.requires.allowed c.args.work.now c.extend_side.new.work c.in_ok-first.first (plan_here c.args.a.now c.args.b.now c.args.question.now side.A (kinds_of c.args.pair.now) c.args.kind c.args.work.now c.extend_side.new.work c.args.pair.now.first.plan c.in_ok-first.first c.requires.pair.first.plan c.in_ok-first.ensures.follows) c.extend_side-2.new.work c.in_ok-second.second (plan_here c.args.a.now c.args.b.now c.args.question.now side.B (kinds_of c.args.pair.now) c.args.kind c.extend_side.new.work c.extend_side-2.new.work c.args.pair.now.second.plan c.in_ok-second.second c.requires.pair.second.plan c.in_ok-second.ensures.follows)

pub settle-requires-clause-room : goal.settle-requires-clause-room
settle-requires-clause-room g c = room_both c.run_laws.ensures c.layers_stay.ensures c.args.a.now c.args.b.now c.args.question.now c.requires.question (kinds_of c.args.pair.now ++ c.args.kind ∷ []) c.requires.allowed c.args.work.now c.extend_side.new.work c.in_ok-first.first (plan_here c.args.a.now c.args.b.now c.args.question.now side.A (kinds_of c.args.pair.now) c.args.kind c.args.work.now c.extend_side.new.work c.args.pair.now.first.plan c.in_ok-first.first c.requires.pair.first.plan c.in_ok-first.ensures.follows) c.extend_side-2.new.work c.in_ok-second.second (plan_here c.args.a.now c.args.b.now c.args.question.now side.B (kinds_of c.args.pair.now) c.args.kind c.extend_side.new.work c.extend_side-2.new.work c.args.pair.now.second.plan c.in_ok-second.second c.requires.pair.second.plan c.in_ok-second.ensures.follows) c.points-points.ensures.purse c.requires.spare

pub returns-in_err-settle-clause-last : goal.returns-in_err-settle-clause-last
returns-in_err-settle-clause-last g c = let k = still_on (g.O.Oracle.held c.args.oracle.now) (g.O.Oracle.given c.args.oracle.now) (g.O.Oracle.given c.extend_side.new.oracle) (g.O.Oracle.given c.extend_side-2.new.oracle) c.in_ok-first.ensures.tells (subst (λ (o : Option (List Answer)). StillTells o (g.O.Oracle.given c.extend_side.new.oracle) (g.O.Oracle.given c.extend_side-2.new.oracle)) c.in_ok-first.ensures.held c.in_ok-second.ensures.tells) in let h = tells_on (g.O.Oracle.held c.args.oracle.now) (g.O.Oracle.given c.args.oracle.now) (g.O.Oracle.given c.extend_side-2.new.oracle) (g.O.Oracle.given c.settle.new.oracle) k c.in_err-settle.field-0.0 (subst (λ (o : Option (List Answer)). EndTells o (g.O.Oracle.given c.extend_side-2.new.oracle) (g.O.Oracle.given c.settle.new.oracle) c.in_err-settle.field-0.0) (c.in_ok-second.ensures.held ∙ c.in_ok-first.ensures.held) c.in_err-settle.ensures.last) in search (rules, h)

pub returns-clause-settles : goal.returns-clause-settles
returns-clause-settles g c = settles_both c.run_laws.ensures c.layers_stay.ensures c.args.a.now c.args.b.now c.args.question.now c.requires.question (kinds_of c.args.pair.now ++ c.args.kind ∷ []) c.requires.allowed c.args.work.now c.extend_side.new.work c.in_ok-first.first (plan_here c.args.a.now c.args.b.now c.args.question.now side.A (kinds_of c.args.pair.now) c.args.kind c.args.work.now c.extend_side.new.work c.args.pair.now.first.plan c.in_ok-first.first c.requires.pair.first.plan c.in_ok-first.ensures.follows) c.extend_side-2.new.work c.in_ok-second.second (plan_here c.args.a.now c.args.b.now c.args.question.now side.B (kinds_of c.args.pair.now) c.args.kind c.extend_side.new.work c.extend_side-2.new.work c.args.pair.now.second.plan c.in_ok-second.second c.requires.pair.second.plan c.in_ok-second.ensures.follows) c.settle.new.graph c.settle.ensures.grown c.settle.ensures.adds c.requires.spare c.in_ok-settle.ensures.alike
