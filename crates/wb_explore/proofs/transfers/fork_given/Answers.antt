use Rattle.wb_explore.specs.Plans.{is_chosen}
use Rattle.wb_explore.specs.Explored.{longer_plan}
use Rattle.wb_explore.proofs.Chosen.{chosen_stays, more_only}
use Rattle.wb_explore.proofs.Giving.{are_ways}
use Rattle.wb_explore.proofs.transfers.fork_given.Goals as goal

pub two_given-requires-clause-here : goal.two_given-requires-clause-here
two_given-requires-clause-here c =
    let p = c.args.plan.now in
    let q = c.args.request.now in
    let is = c.in_ok-first.ensures in
    let only = is.inputs (is_chosen (longer_plan p c.args.kind).kinds p.power) (more_only c.args.graph.now (is_chosen p.kinds p.power) (is_chosen (longer_plan p c.args.kind).kinds p.power) (chosen_stays p.kinds c.args.kind p.power) q.cond.number c.requires.request.cond_inputs) c.requires.cond_inputs in
    (are_ways c.dialogues_grow_at_the_end.ensures c.normalised_inputs_keep_the_dialogue.ensures p c.args.kind q c.requires.short c.states_stay.ensures c.args.graph.now c.branches.new.graph c.branches.ensures.grown c.requires.request c.args.cond c.args.yes c.args.no c.requires.stands c.in_ok-first.first c.in_ok-first.second is.first.value is.second.value c.requires.yes c.requires.no c.requires.yes_inputs c.requires.no_inputs is.first.there is.second.there only.0 only.1 c.in_ok-first_holds.first_holds c.in_order-here.result.0 c.in_order-here.result.1 c.in_ok-first_holds.ensures c.in_order-here.ensures).0

pub two_given-requires-clause-other : goal.two_given-requires-clause-other
two_given-requires-clause-other c =
    let p = c.args.plan.now in
    let q = c.args.request.now in
    let is = c.in_ok-first.ensures in
    let only = is.inputs (is_chosen (longer_plan p c.args.kind).kinds p.power) (more_only c.args.graph.now (is_chosen p.kinds p.power) (is_chosen (longer_plan p c.args.kind).kinds p.power) (chosen_stays p.kinds c.args.kind p.power) q.cond.number c.requires.request.cond_inputs) c.requires.cond_inputs in
    (are_ways c.dialogues_grow_at_the_end.ensures c.normalised_inputs_keep_the_dialogue.ensures p c.args.kind q c.requires.short c.states_stay.ensures c.args.graph.now c.branches.new.graph c.branches.ensures.grown c.requires.request c.args.cond c.args.yes c.args.no c.requires.stands c.in_ok-first.first c.in_ok-first.second is.first.value is.second.value c.requires.yes c.requires.no c.requires.yes_inputs c.requires.no_inputs is.first.there is.second.there only.0 only.1 c.in_ok-first_holds.first_holds c.in_order-here.result.0 c.in_order-here.result.1 c.in_ok-first_holds.ensures c.in_order-here.ensures).1

pub two_given-requires-clause-all : goal.two_given-requires-clause-all
two_given-requires-clause-all c =
    let p = c.args.plan.now in
    let q = c.args.request.now in
    let is = c.in_ok-first.ensures in
    let only = is.inputs (is_chosen (longer_plan p c.args.kind).kinds p.power) (more_only c.args.graph.now (is_chosen p.kinds p.power) (is_chosen (longer_plan p c.args.kind).kinds p.power) (chosen_stays p.kinds c.args.kind p.power) q.cond.number c.requires.request.cond_inputs) c.requires.cond_inputs in
    (are_ways c.dialogues_grow_at_the_end.ensures c.normalised_inputs_keep_the_dialogue.ensures p c.args.kind q c.requires.short c.states_stay.ensures c.args.graph.now c.branches.new.graph c.branches.ensures.grown c.requires.request c.args.cond c.args.yes c.args.no c.requires.stands c.in_ok-first.first c.in_ok-first.second is.first.value is.second.value c.requires.yes c.requires.no c.requires.yes_inputs c.requires.no_inputs is.first.there is.second.there only.0 only.1 c.in_ok-first_holds.first_holds c.in_order-here.result.0 c.in_order-here.result.1 c.in_ok-first_holds.ensures c.in_order-here.ensures).2
