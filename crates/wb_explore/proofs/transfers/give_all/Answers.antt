use Rattle.std.proofs.Common.{◌≡◌, ◌∙◌, sym, subst, arith, length, slice_get, ◌≤◌, ◌<◌}
use Rattle.std.proofs.lemmas.Option.{get_or_from_slice_get, slice_get_within}
use Rattle.std.specs.Prelude.{Contains}
use Rattle.wb_explore.specs.declared.plan.Plan.{Plan}
use Rattle.wb_explore.specs.declared.layer.Request.{Request}
use Rattle.wb_explore.specs.Layers.{IsRequest}
use Rattle.wb_explore.specs.Pending.{IsUnput}
use Rattle.wb_explore.specs.Transfers.{IsAsked}
use Rattle.wb_explore.proofs.Growth.{◌▸◌}
use Rattle.wb_explore.proofs.Refusals.{handed_on}
use Rattle.wb_explore.proofs.Onward.{adds_passed, unput_later}
use Rattle.wb_explore.proofs.Giving.{request_grown, asked_grown}
use Rattle.wb_explore.proofs.Serving.{served_none, served_more, served_covers, fault_after, room_for, all_grow, found_ahead}
use Rattle.wb_explore.proofs.Room.{grows_within}
use Rattle.wb_explore.proofs.transfers.give_all.Goals as goal

pub give-requires-clause-request : goal.give-requires-clause-request
give-requires-clause-request c =
    let l = c.args.layer.now in
    let q = c.request_at-request.result.now in
    let listed : Contains l.requests q = (c.loop-at.at, slice_get_within l.requests c.loop-at.at q c.request_at-request.ensures, get_or_from_slice_get l.requests c.loop-at.at q q c.request_at-request.ensures) in
    subst (λ (p : Plan). IsRequest c.loop-at.graph p q) (sym c.plan.ensures)
    (request_grown c.states_stay.ensures c.args.image.now l.plan c.args.graph.now c.loop-at.graph c.loop-at.invariant.0.grown q (c.requires.layer.each q listed))

pub give-requires-clause-asked : goal.give-requires-clause-asked
give-requires-clause-asked c =
    let l = c.args.layer.now in
    let q = c.request_at-request.result.now in
    let listed : Contains l.requests q = (c.loop-at.at, slice_get_within l.requests c.loop-at.at q c.request_at-request.ensures, get_or_from_slice_get l.requests c.loop-at.at q q c.request_at-request.ensures) in
    subst (λ (p : Plan). IsAsked c.loop-at.graph c.args.image.now p q) (sym c.plan.ensures)
    (asked_grown c.states_stay.ensures c.args.image.now l.plan c.args.graph.now c.loop-at.graph c.loop-at.invariant.0.grown q (c.requires.layer.each q listed) (c.requires.layer.requests.sound q listed))

pub give-requires-clause-room : goal.give-requires-clause-room
give-requires-clause-room c =
    let l = c.args.layer.now in
    room_for c.held_laws.ensures c.dialogues_grow_at_the_end.ensures c.dialogues_are_of_their_kinds.ensures c.states_stay.ensures c.args.image.now c.args.kind l c.args.longer.now c.requires.longer c.different_values_are_no_more.ensures c.args.graph.now c.loop-at.graph c.args.purse.now.reached c.loop-at.purse.reached c.loop-at.pending.items c.loop-at.at c.loop-at.purse.budget.points
    (slice_get_within l.requests c.loop-at.at c.request_at-request.result.now c.request_at-request.ensures) c.requires.layer c.requires.fresh c.requires.within c.loop-at.invariant.0 c.points-points.ensures.purse.within c.points-points.ensures.purse.most

pub returns-in_err-give-clause-fault : goal.returns-in_err-give-clause-fault
returns-in_err-give-clause-fault c = handed_on (IsUnput c.args.image.now c.args.longer.now c.args.purse.now) c.from_residual.result c.in_err-give.field-0.0 c.from_residual.ensures.1 (unput_later c.args.image.now c.args.longer.now c.args.purse.now c.loop-at.purse c.loop-at.invariant.0.passed c.loop-at.invariant.1 c.in_err-give.field-0.0 c.in_err-give.ensures.fault)

pub returns-in_err-give-clause-passed : goal.returns-in_err-give-clause-passed
returns-in_err-give-clause-passed c = adds_passed c.args.image.now c.args.longer.now c.args.purse.now.reached c.loop-at.purse.reached c.give.new.purse.reached c.loop-at.invariant.0.passed c.give.ensures.passed

pub returns-in_err-give-clause-grown : goal.returns-in_err-give-clause-grown
returns-in_err-give-clause-grown c = c.loop-at.invariant.0.grown ▸ c.give.ensures.grown

pub returns-in_err-give-clause-within : goal.returns-in_err-give-clause-within
returns-in_err-give-clause-within c =
    let l = c.args.layer.now in
    fault_after c.held_laws.ensures c.dialogues_grow_at_the_end.ensures c.dialogues_are_of_their_kinds.ensures c.states_stay.ensures c.args.image.now c.args.kind l c.args.longer.now c.requires.longer c.different_values_are_no_more.ensures c.args.graph.now c.loop-at.graph c.give.new.graph c.args.purse.now.reached c.loop-at.purse.reached c.give.new.purse.reached c.loop-at.pending.items c.loop-at.at
    (slice_get_within l.requests c.loop-at.at c.request_at-request.result.now c.request_at-request.ensures) c.requires.layer c.requires.fresh c.requires.knows c.requires.within c.loop-at.invariant.0 c.give.ensures.passed c.give.ensures.adds c.give.ensures.still

pub loop-at-preserved : goal.loop-at-preserved
loop-at-preserved c =
    let l = c.args.layer.now in
    let done = c.in_ok-give.ensures in (
      served_more c.held_laws.ensures c.dialogues_grow_at_the_end.ensures c.dialogues_are_of_their_kinds.ensures c.states_stay.ensures c.args.image.now c.args.kind l c.args.longer.now c.requires.longer c.args.graph.now c.loop-at.graph c.give.new.graph c.args.purse.now.reached c.loop-at.purse.reached c.give.new.purse.reached c.loop-at.at c.request_at-request.result.now c.loop-at.pending.items c.give.new.pending.items c.requires.layer c.request_at-request.ensures
          c.loop-at.invariant.0 c.give.ensures.grown done.pending done.found done.served done.carries done.count c.give.ensures.passed c.give.ensures.adds,
      c.give.ensures.budget ∙ c.loop-at.invariant.1,
    )

pub returns-clause-covered : goal.returns-clause-covered
returns-clause-covered c =
    let l = c.args.layer.now in
    let end : c.loop-at.at ≡ length l.requests = (let a = c.loop-at.auto.at-end in let b = c.len-at-end.ensures in let d = c.loop-at-test.false in omega arith) in
    served_covers c.held_laws.ensures c.dialogues_grow_at_the_end.ensures c.dialogues_are_of_their_kinds.ensures c.states_stay.ensures c.args.image.now c.args.kind l c.args.longer.now c.requires.longer c.args.graph.now c.loop-at.graph c.args.purse.now.reached c.loop-at.purse.reached c.loop-at.pending.items c.loop-at.at end c.requires.layer c.loop-at.invariant.0

pub returns-clause-grows : goal.returns-clause-grows
returns-clause-grows c =
    let l = c.args.layer.now in
    all_grow c.held_laws.ensures c.dialogues_grow_at_the_end.ensures c.dialogues_are_of_their_kinds.ensures c.states_stay.ensures c.args.image.now c.args.kind l c.args.longer.now c.requires.longer c.different_values_are_no_more.ensures c.args.graph.now c.loop-at.graph c.args.purse.now.reached c.loop-at.purse.reached c.loop-at.pending.items c.loop-at.at (let a = c.loop-at.auto.at-end in let b = c.len-at-end.ensures in omega arith) c.requires.layer c.requires.fresh c.loop-at.invariant.0

pub returns-clause-within : goal.returns-clause-within
returns-clause-within c =
    let l = c.args.layer.now in
    grows_within c.args.graph.now c.loop-at.graph l.plan.power (length c.args.purse.now.reached) (length c.loop-at.purse.reached) c.requires.within
    (all_grow c.held_laws.ensures c.dialogues_grow_at_the_end.ensures c.dialogues_are_of_their_kinds.ensures c.states_stay.ensures c.args.image.now c.args.kind l c.args.longer.now c.requires.longer c.different_values_are_no_more.ensures c.args.graph.now c.loop-at.graph c.args.purse.now.reached c.loop-at.purse.reached c.loop-at.pending.items c.loop-at.at (let a = c.loop-at.auto.at-end in let b = c.len-at-end.ensures in omega arith) c.requires.layer c.requires.fresh c.loop-at.invariant.0)
