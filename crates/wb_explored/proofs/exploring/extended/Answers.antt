use Rattle.std.proofs.Common.{List, refl, sym, ap, subst, ◌∙◌, length, take}
use Rattle.std.proofs.lemmas.List.{take_all}
use Rattle.wb_port.specs.declared.accesses.Kind.{Kind}
use Rattle.wb_explore.specs.declared.budget.Budget.{Budget}
use Rattle.wb_explored.specs.Explorations.{IsUnderWay}
use Rattle.wb_explored.proofs.Shorter.{fresh}
use Rattle.wb_explored.proofs.Rooms.{within_more}
use Rattle.wb_explored.proofs.Stages.{next_stage, one_further, short_stage, stops}
use Rattle.wb_explored.proofs.exploring.extended.Goals as goal

pub loop-at-init : goal.loop-at-init
loop-at-init g c = (c.requires.start, refl, c.requires.limit, refl)

pub extend-requires-clause-layer : goal.extend-requires-clause-layer
extend-requires-clause-layer g c = c.loop-at.invariant.0.layer

pub extend-requires-clause-short : goal.extend-requires-clause-short
extend-requires-clause-short g c =
    short_stage c.args.start.plan c.loop-at.layer.plan c.args.kinds.now c.loop-at.at c.loop-at.invariant.0.plan c.loop-at-test.true c.requires.few

pub extend-requires-clause-knows : goal.extend-requires-clause-knows
extend-requires-clause-knows g c = c.loop-at.invariant.0.knows

pub extend-requires-clause-words : goal.extend-requires-clause-words
extend-requires-clause-words g c = c.loop-at.invariant.0.words

pub extend-requires-clause-fresh : goal.extend-requires-clause-fresh
extend-requires-clause-fresh g c = fresh c.loop-at.layer.plan _ c.loop-at.purse.reached c.loop-at.invariant.0.shorter

pub extend-requires-clause-limit : goal.extend-requires-clause-limit
extend-requires-clause-limit g c =
    let i = c.loop-at.invariant in
    i.2 ∙ ap (λ (b : Budget). b.conflicts) (sym i.1)

pub extend-requires-clause-within : goal.extend-requires-clause-within
extend-requires-clause-within g c = within_more c.loop-at.graph c.loop-at.layer.plan.power (length c.loop-at.purse.reached) c.loop-at.invariant.0.within

pub returns-in-Err-clause-cause : goal.returns-in-Err-clause-cause
returns-in-Err-clause-cause g c =
    let i = c.loop-at.invariant in
    stops c.args.image.now c.args.start.plan c.loop-at.layer.plan c.args.kinds.now c.loop-at.at _ (g.O.Oracle.is_sound c.args.oracle.now) (g.O.Oracle.is_sound c.loop-at.oracle)
    c.loop-at.purse c.extend.new.purse.reached c.args.purse.now.budget c.in-Err.fault c.loop-at-test.true i.0.plan i.1 i.3 c.extend.ensures.passed c.in-Err.ensures.cause

pub loop-at-preserved : goal.loop-at-preserved
loop-at-preserved g c =
    let i = c.loop-at.invariant in (
      subst (λ (done : List Kind). IsUnderWay c.extend.new.graph c.args.image.now c.args.start.plan done c.in-Ok.next c.extend.new.purse.reached)
          (one_further c.args.kinds.now c.loop-at.at _ c.loop-at-test.true)
          (next_stage c.points_are_passed_after_accesses.ensures c.transfers_join_in_order.ensures c.loop-at.graph c.extend.new.graph c.args.image.now c.args.start.plan (take c.loop-at.at c.args.kinds.now) _
          c.loop-at.layer c.in-Ok.next c.loop-at.purse.reached c.extend.new.purse.reached i.0 c.in-Ok.ensures.layer c.in-Ok.ensures.plan c.in-Ok.ensures.knows
          c.extend.ensures.passed c.extend.ensures.grown c.in-Ok.ensures.grows),
      c.extend.ensures.budget ∙ i.1,
      c.extend.ensures.limit ∙ i.2,
      c.extend.ensures.sound ∙ i.3,
    )

pub returns-clause-layer : goal.returns-clause-layer
returns-clause-layer g c =
    subst (λ (done : List Kind). IsUnderWay c.loop-at.graph c.args.image.now c.args.start.plan done c.loop-at.layer c.loop-at.purse.reached)
    (take_all c.loop-at.at c.args.kinds.now c.loop-at-test.false) c.loop-at.invariant.0
