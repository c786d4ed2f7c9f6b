use Rattle.std.proofs.Common.{◌≡◌, ◌≤◌, Option, refl, sym, subst, ◌∙◌, length}
use Rattle.std.specs.Prelude.{All}
use Rattle.wb_explore.specs.declared.plan.Plan.{Plan}
use Rattle.wb_explore.specs.declared.faults.ExploreFault.{ExploreFault}
use Rattle.wb_explore.specs.Explored.{longer_plan, IsOfOther, KeepsRight, KeepsOlder}
use Rattle.wb_term.specs.Terms.{table_of, table_words}
use Rattle.wb_port.specs.Talk.{Talk}
use Rattle.wb_explore.specs.Plans.{runs_of}
use Rattle.wb_explore.specs.Purses.{points_of}
use Rattle.wb_explore.specs.Seen.{HoldsPassed}
use Rattle.wb_explore.specs.Layers.{Requests, Knows, AddsPassed}
use Rattle.wb_explore.specs.Faults.{IsCause, OfBadAnswer, IsLastAnswer}
use Rattle.wb_explore.proofs.Growth.{◌▸◌}
use Rattle.wb_explore.proofs.Refusals.{if_err, handed_on}
use Rattle.wb_explore.proofs.Onward.{adds_passed}
use Rattle.wb_explore.proofs.Layering.{longer_layer, knows_longer}
use Rattle.wb_explore.proofs.Serving.{adds_nil}
use Rattle.wb_explore.proofs.Ended.{always, if_ok, if_ok_two, if_ok_three, adds_length, cause_later, unput_cause, unput_last, same_words, right_longer, longer_few}
use Rattle.wb_explore.proofs.Room.{raised_all, steps_room, whole_grows, later_within}
use Rattle.wb_explore.proofs.layers.extend.Goals as goal

pub returns-in_err-longer-clause-passed : goal.returns-in_err-longer-clause-passed
returns-in_err-longer-clause-passed g c = adds_nil c.args.image.now (longer_plan c.args.layer.now.plan c.args.kind) c.args.purse.now.reached

pub give_all-requires-clause-fresh : goal.give_all-requires-clause-fresh
give_all-requires-clause-fresh g c = subst (λ (p : Plan). All (IsOfOther p) c.args.purse.now.reached) (sym c.in_ok-longer.ensures.plan) c.requires.fresh

pub returns-in_err-pending-clause-cause : goal.returns-in_err-pending-clause-cause
returns-in_err-pending-clause-cause g c =
    handed_on (IsCause c.args.image.now (longer_plan c.args.layer.now.plan c.args.kind) (g.O.Oracle.is_sound c.args.oracle.now) c.args.purse.now) c.from_residual-in_err-pending.result c.in_err-pending.field-0.0 c.from_residual-in_err-pending.ensures.1
    (subst (λ (p : Plan). IsCause c.args.image.now p (g.O.Oracle.is_sound c.args.oracle.now) c.args.purse.now c.in_err-pending.field-0.0) c.in_ok-longer.ensures.plan
    (unput_cause c.args.image.now c.in_ok-longer.longer (g.O.Oracle.is_sound c.args.oracle.now) c.args.purse.now c.in_err-pending.field-0.0 c.in_err-pending.ensures.fault))

pub returns-in_err-pending-clause-last : goal.returns-in_err-pending-clause-last
returns-in_err-pending-clause-last g c =
    handed_on (OfBadAnswer (IsLastAnswer (g.O.Oracle.held c.args.oracle.now) (g.O.Oracle.given c.args.oracle.now) (g.O.Oracle.given c.args.oracle.now))) c.from_residual-in_err-pending.result c.in_err-pending.field-0.0 c.from_residual-in_err-pending.ensures.1
    (unput_last c.args.image.now c.in_ok-longer.longer c.args.purse.now (IsLastAnswer (g.O.Oracle.held c.args.oracle.now) (g.O.Oracle.given c.args.oracle.now) (g.O.Oracle.given c.args.oracle.now)) c.in_err-pending.field-0.0 c.in_err-pending.ensures.fault)

pub returns-in_err-pending-clause-passed : goal.returns-in_err-pending-clause-passed
returns-in_err-pending-clause-passed g c = subst (λ (p : Plan). AddsPassed c.args.image.now p c.args.purse.now.reached c.give_all.new.purse.reached) c.in_ok-longer.ensures.plan c.give_all.ensures.passed

pub walk-requires-clause-paced : goal.walk-requires-clause-paced
walk-requires-clause-paced g c = subst (λ (p : Plan). 1 ≤ p.pace) (sym c.in_ok-longer.ensures.plan) c.requires.layer.paced

pub walk-requires-clause-few : goal.walk-requires-clause-few
walk-requires-clause-few g c = longer_few c.args.layer.now.plan c.args.kind c.in_ok-longer.longer c.in_ok-longer.ensures.plan c.requires.short

pub walk-requires-clause-words : goal.walk-requires-clause-words
walk-requires-clause-words g c =
    same_words c.args.graph.now c.give_all.new.graph c.give_all.ensures.grown c.in_ok-longer.longer.side c.args.image.now.drom
    (subst (λ (p : Plan). table_words c.args.graph.now.tables (table_of c.args.graph.now.tables p.side) ≡ c.args.image.now.drom) (sym c.in_ok-longer.ensures.plan) c.requires.words)

pub walk-requires-clause-right : goal.walk-requires-clause-right
walk-requires-clause-right g c =
    subst (λ (p : Plan). KeepsRight c.args.image.now p c.in_ok-longer.overrun) (sym c.in_ok-longer.ensures.plan)
    (subst (KeepsRight c.args.image.now (longer_plan c.args.layer.now.plan c.args.kind)) (sym c.in_ok-longer.ensures.overrun) (right_longer c.args.image.now c.args.layer.now.plan c.args.kind c.args.layer.now.overrun c.requires.layer.overrun))

pub walk-requires-clause-room : goal.walk-requires-clause-room
walk-requires-clause-room g c =
    steps_room c.args.graph.now c.give_all.new.graph c.args.layer.now.plan.power (length c.args.purse.now.reached) (length c.give_all.new.purse.reached) c.give_all.new.purse.budget.points _ c.requires.within
    (raised_all c.args.graph.now c.give_all.new.graph (length c.args.purse.now.reached) (length c.give_all.new.purse.reached) c.in_ok-pending.ensures.grows)
    c.in_ok-pending.ensures.count c.points-points.ensures.purse.within c.points-points.ensures.purse.most

pub returns-clause-layer : goal.returns-clause-layer
returns-clause-layer g c =
    if_ok_three c.walk.result
    (λ (l : Requests) x same older.
    longer_layer c.held_laws.ensures c.dialogues_are_of_their_kinds.ensures c.args.image.now c.dialogues_grow_at_the_end.ensures c.args.graph.now c.walk.new.graph c.args.kind c.walk.new.purse.reached c.args.layer.now l c.requires.layer c.requires.short (same ∙ c.in_ok-longer.ensures.plan)
    (subst (λ (o : Option Talk). KeepsOlder o l.overrun) c.in_ok-longer.ensures.overrun older) x)
    c.walk.ensures.explored c.walk.ensures.plan c.walk.ensures.older

pub returns-clause-plan : goal.returns-clause-plan
returns-clause-plan g c = if_ok c.walk.result (λ (l : Requests) same. same ∙ c.in_ok-longer.ensures.plan) c.walk.ensures.plan

pub returns-clause-knows : goal.returns-clause-knows
returns-clause-knows g c =
    if_ok_two c.walk.result
    (λ (l : Requests) x same.
    let e = same ∙ c.in_ok-longer.ensures.plan in
    subst (λ (p : Plan). Knows c.args.image.now p c.walk.new.purse.reached) (sym e)
    (knows_longer c.held_laws.ensures c.dialogues_are_of_their_kinds.ensures c.args.image.now c.args.layer.now.plan c.args.kind c.args.purse.now.reached c.walk.new.purse.reached c.requires.knows
    (subst (λ (p : Plan). AddsPassed c.args.image.now p c.args.purse.now.reached c.walk.new.purse.reached) c.in_ok-longer.ensures.plan
    (adds_passed c.args.image.now c.in_ok-longer.longer c.args.purse.now.reached c.give_all.new.purse.reached c.walk.new.purse.reached c.give_all.ensures.passed c.walk.ensures.passed))
    (subst (λ (p : Plan). HoldsPassed (runs_of c.args.image.now p) (points_of c.walk.new.purse.reached)) e x.passed)))
    c.walk.ensures.explored c.walk.ensures.plan

pub returns-clause-cause : goal.returns-clause-cause
returns-clause-cause g c =
    if_err c.walk.result
    (λ (f : ExploreFault) u. subst (λ (p : Plan). IsCause c.args.image.now p (g.O.Oracle.is_sound c.args.oracle.now) c.args.purse.now f) c.in_ok-longer.ensures.plan
    (cause_later c.args.image.now c.in_ok-longer.longer (g.O.Oracle.is_sound c.args.oracle.now) c.args.purse.now c.give_all.new.purse c.give_all.ensures.passed c.give_all.ensures.budget f u))
    c.walk.ensures.cause

pub returns-clause-passed : goal.returns-clause-passed
returns-clause-passed g c =
    subst (λ (p : Plan). AddsPassed c.args.image.now p c.args.purse.now.reached c.walk.new.purse.reached) c.in_ok-longer.ensures.plan
    (adds_passed c.args.image.now c.in_ok-longer.longer c.args.purse.now.reached c.give_all.new.purse.reached c.walk.new.purse.reached c.give_all.ensures.passed c.walk.ensures.passed)

pub returns-clause-grown : goal.returns-clause-grown
returns-clause-grown g c = c.give_all.ensures.grown ▸ c.walk.ensures.grown

pub returns-clause-grows : goal.returns-clause-grows
returns-clause-grows g c =
    always c.walk.result
    (whole_grows c.args.graph.now c.give_all.new.graph c.walk.new.graph (length c.args.purse.now.reached) (length c.give_all.new.purse.reached) (length c.walk.new.purse.reached) _ (length c.walk.ensures.passed.added)
    (raised_all c.args.graph.now c.give_all.new.graph (length c.args.purse.now.reached) (length c.give_all.new.purse.reached) c.in_ok-pending.ensures.grows)
    c.in_ok-pending.ensures.count (adds_length c.args.image.now c.in_ok-longer.longer c.give_all.new.purse.reached c.walk.new.purse.reached c.walk.ensures.passed) c.walk.ensures.grows)

pub returns-clause-within : goal.returns-clause-within
returns-clause-within g c =
    later_within c.args.graph.now c.walk.new.graph c.args.layer.now.plan.power (length c.args.purse.now.reached) (length c.walk.new.purse.reached) c.requires.within
    (whole_grows c.args.graph.now c.give_all.new.graph c.walk.new.graph (length c.args.purse.now.reached) (length c.give_all.new.purse.reached) (length c.walk.new.purse.reached) _ (length c.walk.ensures.passed.added)
    (raised_all c.args.graph.now c.give_all.new.graph (length c.args.purse.now.reached) (length c.give_all.new.purse.reached) c.in_ok-pending.ensures.grows)
    c.in_ok-pending.ensures.count (adds_length c.args.image.now c.in_ok-longer.longer c.give_all.new.purse.reached c.walk.new.purse.reached c.walk.ensures.passed) c.walk.ensures.grows)
