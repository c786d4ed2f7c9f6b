use Rattle.std.proofs.Common.{◌<◌, ◌≤◌, Option, List, length, refl, sym, subst, ◌∙◌, arith, rules}
use Rattle.wb_solve.specs.declared.search.Answer.{Answer}
use Rattle.wb_explore.specs.Faults.{StillTells}
use Rattle.wb_compare.specs.Endings.{EndTells}
use Rattle.wb_compare.proofs.Joints.{tells_on, still_on}
use Rattle.wb_compare.proofs.Underway.{pair_at, fresh_now, below_now, begun, still_same, visit_more, level_done}
use Rattle.wb_compare.proofs.levels.next_level.Goals as goal

pub loop-at-init : goal.loop-at-init
loop-at-init g c = record { visits = begun c.args.a.now c.args.b.now c.args.question.now c.args.level.now c.args.work.now c.new-pairs.result.items c.new-pairs.ensures.items c.requires.work c.requires.spare; sound = refl; limit = refl; held = refl; tells = still_same _ _ }

pub visit-requires-clause-pair : goal.visit-requires-clause-pair
visit-requires-clause-pair g c = let less : c.loop-at.at < length c.args.level.now.pairs.items = omega arith in pair_at c.args.a.now c.args.b.now c.args.question.now c.args.level.now c.args.work.now c.loop-at.work c.loop-at.at c.index.result.now c.loop-at.pairs.items c.requires.level (sym c.index.ensures) less c.layers_stay.ensures c.loop-at.invariant.visits

pub visit-requires-clause-fresh : goal.visit-requires-clause-fresh
visit-requires-clause-fresh g c = let less : c.loop-at.at < length c.args.level.now.pairs.items = omega arith in fresh_now c.args.a.now c.args.b.now c.args.question.now c.args.level.now c.args.work.now c.loop-at.work c.loop-at.at c.index.result.now c.loop-at.pairs.items c.requires.level (sym c.index.ensures) less c.loop-at.invariant.visits

pub visit-requires-clause-below : goal.visit-requires-clause-below
visit-requires-clause-below g c = let less : c.loop-at.at < length c.args.level.now.pairs.items = omega arith in below_now c.args.a.now c.args.b.now c.args.question.now c.args.level.now c.args.work.now c.loop-at.work c.loop-at.at c.index.result.now c.loop-at.pairs.items c.requires.level (sym c.index.ensures) less

pub returns-in_err-visit-clause-last : goal.returns-in_err-visit-clause-last
returns-in_err-visit-clause-last g c = let h = tells_on (g.O.Oracle.held c.args.oracle.now) (g.O.Oracle.given c.args.oracle.now) (g.O.Oracle.given c.loop-at.oracle) (g.O.Oracle.given c.visit.new.oracle) c.loop-at.invariant.tells c.in_err-visit.field-0.0 (subst (λ (o : Option (List Answer)). EndTells o (g.O.Oracle.given c.loop-at.oracle) (g.O.Oracle.given c.visit.new.oracle) c.in_err-visit.field-0.0) c.loop-at.invariant.held c.in_err-visit.ensures.last) in search (rules, h)

pub loop-at-preserved : goal.loop-at-preserved
loop-at-preserved g c = let less : c.loop-at.at < length c.args.level.now.pairs.items = omega arith in record { visits = visit_more c.args.a.now c.args.b.now c.args.question.now c.args.level.now c.args.work.now c.loop-at.work c.loop-at.at c.index.result.now c.loop-at.pairs.items c.requires.level (sym c.index.ensures) less c.layers_stay.ensures c.visit.new.work c.visit.new.next.items c.loop-at.invariant.visits c.in_ok-visit.ensures.visits; sound = c.in_ok-visit.ensures.sound ∙ c.loop-at.invariant.sound; limit = c.in_ok-visit.ensures.limit ∙ c.loop-at.invariant.limit; held = c.in_ok-visit.ensures.held ∙ c.loop-at.invariant.held; tells = still_on (g.O.Oracle.held c.args.oracle.now) (g.O.Oracle.given c.args.oracle.now) (g.O.Oracle.given c.loop-at.oracle) (g.O.Oracle.given c.visit.new.oracle) c.loop-at.invariant.tells (subst (λ (o : Option (List Answer)). StillTells o (g.O.Oracle.given c.loop-at.oracle) (g.O.Oracle.given c.visit.new.oracle)) c.loop-at.invariant.held c.in_ok-visit.ensures.tells) }

pub returns-clause-level : goal.returns-clause-level
returns-clause-level g c = let done : length c.args.level.now.pairs.items ≤ c.loop-at.at = omega arith in level_done c.args.a.now c.args.b.now c.args.question.now c.run_laws.ensures c.layers_stay.ensures c.args.work.now c.loop-at.work c.args.level.now c.loop-at.pairs c.loop-at.at done c.requires.level c.loop-at.invariant.visits
