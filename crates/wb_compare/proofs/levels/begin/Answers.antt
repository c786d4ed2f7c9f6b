use Rattle.std.proofs.Common.{Option, List, [], subst, ◌∙◌, rules}
use Rattle.wb_word.specs.declared.sides.Side.TheVariants as side
use Rattle.wb_solve.specs.declared.search.Answer.{Answer}
use Rattle.wb_explore.specs.Faults.{StillTells}
use Rattle.wb_compare.specs.Endings.{EndTells}
use Rattle.wb_compare.proofs.Joints.{tells_on, still_on, fresh_side, fresh_second, spare_second, layers_both, room_both, settles_both}
use Rattle.wb_compare.proofs.levels.begin.Goals as goal

pub begin_side-requires-clause-fresh : goal.begin_side-requires-clause-fresh
begin_side-requires-clause-fresh g c = fresh_side c.args.question.now side.A [] c.args.work.now.purse.reached c.requires.fresh

pub begin_side-requires-2-clause-spare : goal.begin_side-requires-2-clause-spare
begin_side-requires-2-clause-spare g c = spare_second c.run_laws.ensures c.layers_stay.ensures c.args.a.now c.args.b.now c.args.question.now c.requires.question [] tt c.args.work.now c.begin_side.new.work c.in_ok-first.first c.in_ok-first.ensures.follows c.requires.spare

pub begin_side-requires-2-clause-fresh : goal.begin_side-requires-2-clause-fresh
begin_side-requires-2-clause-fresh g c = fresh_second c.run_laws.ensures c.layers_stay.ensures c.args.a.now c.args.b.now c.args.question.now c.requires.question [] tt c.args.work.now c.begin_side.new.work c.in_ok-first.first c.in_ok-first.ensures.follows c.requires.fresh

pub returns-in_err-second-clause-last : goal.returns-in_err-second-clause-last
returns-in_err-second-clause-last g c = let h = tells_on (g.O.Oracle.held c.args.oracle.now) (g.O.Oracle.given c.args.oracle.now) (g.O.Oracle.given c.begin_side.new.oracle) (g.O.Oracle.given c.begin_side-2.new.oracle) c.in_ok-first.ensures.tells c.in_err-second.field-0.0 (subst (λ (o : Option (List Answer)). EndTells o (g.O.Oracle.given c.begin_side.new.oracle) (g.O.Oracle.given c.begin_side-2.new.oracle) c.in_err-second.field-0.0) c.in_ok-first.ensures.held c.in_err-second.ensures.last) in search (rules, h)

pub settle-requires-clause-layers : goal.settle-requires-clause-layers
settle-requires-clause-layers g c = layers_both c.run_laws.ensures c.layers_stay.ensures c.args.a.now c.args.b.now c.args.question.now c.requires.question [] tt c.args.work.now c.begin_side.new.work c.in_ok-first.first c.in_ok-first.ensures.follows c.begin_side-2.new.work c.in_ok-second.second c.in_ok-second.ensures.follows

pub settle-requires-clause-room : goal.settle-requires-clause-room
settle-requires-clause-room g c = room_both c.run_laws.ensures c.layers_stay.ensures c.args.a.now c.args.b.now c.args.question.now c.requires.question [] tt c.args.work.now c.begin_side.new.work c.in_ok-first.first c.in_ok-first.ensures.follows c.begin_side-2.new.work c.in_ok-second.second c.in_ok-second.ensures.follows c.points-points.ensures.purse c.requires.spare

pub returns-in_err-settle-clause-last : goal.returns-in_err-settle-clause-last
returns-in_err-settle-clause-last g c = let k = still_on (g.O.Oracle.held c.args.oracle.now) (g.O.Oracle.given c.args.oracle.now) (g.O.Oracle.given c.begin_side.new.oracle) (g.O.Oracle.given c.begin_side-2.new.oracle) c.in_ok-first.ensures.tells (subst (λ (o : Option (List Answer)). StillTells o (g.O.Oracle.given c.begin_side.new.oracle) (g.O.Oracle.given c.begin_side-2.new.oracle)) c.in_ok-first.ensures.held c.in_ok-second.ensures.tells) in let h = tells_on (g.O.Oracle.held c.args.oracle.now) (g.O.Oracle.given c.args.oracle.now) (g.O.Oracle.given c.begin_side-2.new.oracle) (g.O.Oracle.given c.settle.new.oracle) k c.in_err-settle.field-0.0 (subst (λ (o : Option (List Answer)). EndTells o (g.O.Oracle.given c.begin_side-2.new.oracle) (g.O.Oracle.given c.settle.new.oracle) c.in_err-settle.field-0.0) (c.in_ok-second.ensures.held ∙ c.in_ok-first.ensures.held) c.in_err-settle.ensures.last) in search (rules, h)

pub returns-clause-settles : goal.returns-clause-settles
returns-clause-settles g c = settles_both c.run_laws.ensures c.layers_stay.ensures c.args.a.now c.args.b.now c.args.question.now c.requires.question [] tt c.args.work.now c.begin_side.new.work c.in_ok-first.first c.in_ok-first.ensures.follows c.begin_side-2.new.work c.in_ok-second.second c.in_ok-second.ensures.follows c.settle.new.graph c.settle.ensures.grown c.settle.ensures.adds c.requires.spare c.in_ok-settle.ensures.alike
