use Rattle.std.proofs.Common.{◌≡◌, ◌≤◌, sym, ap, subst, ◌∙◌, arith, length}
use Rattle.std.specs.Prelude.{All}
use Rattle.wb_term.specs.Terms.{table_of, table_words}
use Rattle.wb_explore.specs.declared.plan.Plan.{Plan}
use Rattle.wb_explore.specs.declared.faults.ExploreFault.{ExploreFault}
use Rattle.wb_explore.specs.Explored.{first_plan, IsOfOther}
use Rattle.wb_explore.specs.Faults.{IsCause, OfBadAnswer, IsLastAnswer}
use Rattle.wb_explore.specs.Growth.{IsWithin}
use Rattle.wb_explore.specs.Layers.{Requests, AddsPassed}
use Rattle.wb_explore.proofs.Growth.{◌▸◌}
use Rattle.wb_explore.proofs.Refusals.{if_err, handed_on}
use Rattle.wb_explore.proofs.Onward.{adds_passed}
use Rattle.wb_explore.proofs.Layering.{first_layer, knows_first}
use Rattle.wb_explore.proofs.Ended.{always, if_ok, if_ok_two, adds_length, cause_later, unput_cause, unput_last, same_words}
use Rattle.wb_explore.proofs.Room.{raised_start, steps_room, whole_grows, later_within}
use Rattle.wb_explore.proofs.layers.first.Goals as goal

pub begin-requires-clause-empty : goal.begin-requires-clause-empty
begin-requires-clause-empty g c = ap (λ (p : Plan). p.kinds) c.shortest-plan.ensures

pub begin-requires-clause-fresh : goal.begin-requires-clause-fresh
begin-requires-clause-fresh g c = subst (λ (p : Plan). All (IsOfOther p) c.args.purse.now.reached) (sym c.shortest-plan.ensures) c.requires.fresh

pub begin-requires-clause-within : goal.begin-requires-clause-within
begin-requires-clause-within g c = subst (λ (p : Plan). IsWithin c.args.graph.now p.power (length c.args.purse.now.reached) 4000 260000) (sym c.shortest-plan.ensures) c.requires.within

pub returns-in_err-pending-clause-cause : goal.returns-in_err-pending-clause-cause
returns-in_err-pending-clause-cause g c =
    handed_on (IsCause c.args.image.now (first_plan c.args.side c.args.pace c.args.power) (g.O.Oracle.is_sound c.args.oracle.now) c.args.purse.now) c.from_residual.result c.in_err-pending.field-0.0 c.from_residual.ensures.1
    (subst (λ (p : Plan). IsCause c.args.image.now p (g.O.Oracle.is_sound c.args.oracle.now) c.args.purse.now c.in_err-pending.field-0.0) c.shortest-plan.ensures
    (unput_cause c.args.image.now c.shortest-plan.result (g.O.Oracle.is_sound c.args.oracle.now) c.args.purse.now c.in_err-pending.field-0.0 c.in_err-pending.ensures.fault))

pub returns-in_err-pending-clause-last : goal.returns-in_err-pending-clause-last
returns-in_err-pending-clause-last g c =
    handed_on (OfBadAnswer (IsLastAnswer (g.O.Oracle.held c.args.oracle.now) (g.O.Oracle.given c.args.oracle.now) (g.O.Oracle.given c.args.oracle.now))) c.from_residual.result c.in_err-pending.field-0.0 c.from_residual.ensures.1
    (unput_last c.args.image.now c.shortest-plan.result c.args.purse.now (IsLastAnswer (g.O.Oracle.held c.args.oracle.now) (g.O.Oracle.given c.args.oracle.now) (g.O.Oracle.given c.args.oracle.now)) c.in_err-pending.field-0.0 c.in_err-pending.ensures.fault)

pub returns-in_err-pending-clause-passed : goal.returns-in_err-pending-clause-passed
returns-in_err-pending-clause-passed g c = subst (λ (p : Plan). AddsPassed c.args.image.now p c.args.purse.now.reached c.begin.new.purse.reached) c.shortest-plan.ensures c.begin.ensures.passed

pub returns-in_err-pending-clause-within : goal.returns-in_err-pending-clause-within
returns-in_err-pending-clause-within g c = subst (λ (p : Plan). IsWithin c.begin.new.graph p.power (length c.begin.new.purse.reached) 4096 262144) c.shortest-plan.ensures c.begin.ensures.within

pub walk-requires-clause-paced : goal.walk-requires-clause-paced
walk-requires-clause-paced g c = subst (λ (p : Plan). 1 ≤ p.pace) (sym c.shortest-plan.ensures) c.requires.paced

pub walk-requires-clause-few : goal.walk-requires-clause-few
walk-requires-clause-few g c = subst (λ (p : Plan). length p.kinds ≤ 16) (sym c.shortest-plan.ensures) (omega arith)

pub walk-requires-clause-words : goal.walk-requires-clause-words
walk-requires-clause-words g c =
    same_words c.args.graph.now c.begin.new.graph c.begin.ensures.grown c.shortest-plan.result.side c.args.image.now.drom
    (subst (λ (p : Plan). table_words c.args.graph.now.tables (table_of c.args.graph.now.tables p.side) ≡ c.args.image.now.drom) (sym c.shortest-plan.ensures) c.requires.words)

pub walk-requires-clause-room : goal.walk-requires-clause-room
walk-requires-clause-room g c =
    steps_room c.args.graph.now c.begin.new.graph c.args.power (length c.args.purse.now.reached) (length c.begin.new.purse.reached) c.begin.new.purse.budget.points _ c.requires.within
    (raised_start c.args.graph.now c.begin.new.graph (length c.args.purse.now.reached) (length c.begin.new.purse.reached) c.in_ok-pending.ensures.grows)
    c.in_ok-pending.ensures.count c.points-points.ensures.purse.within c.points-points.ensures.purse.most

pub returns-clause-layer : goal.returns-clause-layer
returns-clause-layer g c =
    if_ok_two c.walk.result
    (λ (l : Requests) x same.
    let e = same ∙ c.shortest-plan.ensures in
    first_layer c.held_laws.ensures c.dialogues_are_of_their_kinds.ensures c.args.image.now c.walk.new.graph c.walk.new.purse.reached l (subst (λ (p : Plan). 1 ≤ p.pace) (sym e) c.requires.paced) (ap (λ (p : Plan). p.kinds) e) x)
    c.walk.ensures.explored c.walk.ensures.plan

pub returns-clause-plan : goal.returns-clause-plan
returns-clause-plan g c = if_ok c.walk.result (λ (l : Requests) same. same ∙ c.shortest-plan.ensures) c.walk.ensures.plan

pub returns-clause-knows : goal.returns-clause-knows
returns-clause-knows g c =
    if_ok_two c.walk.result
    (λ (l : Requests) x same. knows_first c.held_laws.ensures c.dialogues_are_of_their_kinds.ensures c.args.image.now l.plan (ap (λ (p : Plan). p.kinds) (same ∙ c.shortest-plan.ensures)) c.walk.new.purse.reached x.passed)
    c.walk.ensures.explored c.walk.ensures.plan

pub returns-clause-cause : goal.returns-clause-cause
returns-clause-cause g c =
    if_err c.walk.result
    (λ (f : ExploreFault) u. subst (λ (p : Plan). IsCause c.args.image.now p (g.O.Oracle.is_sound c.args.oracle.now) c.args.purse.now f) c.shortest-plan.ensures
    (cause_later c.args.image.now c.shortest-plan.result (g.O.Oracle.is_sound c.args.oracle.now) c.args.purse.now c.begin.new.purse c.begin.ensures.passed c.begin.ensures.budget f u))
    c.walk.ensures.cause

pub returns-clause-passed : goal.returns-clause-passed
returns-clause-passed g c =
    subst (λ (p : Plan). AddsPassed c.args.image.now p c.args.purse.now.reached c.walk.new.purse.reached) c.shortest-plan.ensures
    (adds_passed c.args.image.now c.shortest-plan.result c.args.purse.now.reached c.begin.new.purse.reached c.walk.new.purse.reached c.begin.ensures.passed c.walk.ensures.passed)

pub returns-clause-grown : goal.returns-clause-grown
returns-clause-grown g c = c.begin.ensures.grown ▸ c.walk.ensures.grown

pub returns-clause-grows : goal.returns-clause-grows
returns-clause-grows g c =
    always c.walk.result
    (whole_grows c.args.graph.now c.begin.new.graph c.walk.new.graph (length c.args.purse.now.reached) (length c.begin.new.purse.reached) (length c.walk.new.purse.reached) _ (length c.walk.ensures.passed.added)
    (raised_start c.args.graph.now c.begin.new.graph (length c.args.purse.now.reached) (length c.begin.new.purse.reached) c.in_ok-pending.ensures.grows)
    c.in_ok-pending.ensures.count (adds_length c.args.image.now c.shortest-plan.result c.begin.new.purse.reached c.walk.new.purse.reached c.walk.ensures.passed) c.walk.ensures.grows)

pub returns-clause-within : goal.returns-clause-within
returns-clause-within g c =
    later_within c.args.graph.now c.walk.new.graph c.args.power (length c.args.purse.now.reached) (length c.walk.new.purse.reached) c.requires.within
    (whole_grows c.args.graph.now c.begin.new.graph c.walk.new.graph (length c.args.purse.now.reached) (length c.begin.new.purse.reached) (length c.walk.new.purse.reached) _ (length c.walk.ensures.passed.added)
    (raised_start c.args.graph.now c.begin.new.graph (length c.args.purse.now.reached) (length c.begin.new.purse.reached) c.in_ok-pending.ensures.grows)
    c.in_ok-pending.ensures.count (adds_length c.args.image.now c.shortest-plan.result c.begin.new.purse.reached c.walk.new.purse.reached c.walk.ensures.passed) c.walk.ensures.grows)
