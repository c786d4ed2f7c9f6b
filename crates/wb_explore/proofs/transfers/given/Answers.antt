use Rattle.wb_explore.specs.Plans.{is_chosen}
use Rattle.wb_explore.specs.Explored.{longer_plan}
use Rattle.wb_explore.proofs.Growth.{◌▸◌}
use Rattle.wb_explore.proofs.Onward.{adds_on}
use Rattle.wb_explore.proofs.Chosen.{chosen_stays, more_state}
use Rattle.wb_explore.proofs.Giving.{request_grown, gives_to, write_chosen}
use Rattle.wb_explore.proofs.transfers.given.Goals as goal

pub ways_given-requires-clause-request : goal.ways_given-requires-clause-request
ways_given-requires-clause-request c = request_grown c.states_stay.ensures c.args.image.now c.args.plan.now c.args.graph.now c.transfer.new.graph c.transfer.ensures.grown c.args.request.now c.requires.request

pub ways_given-requires-clause-inputs : goal.ways_given-requires-clause-inputs
ways_given-requires-clause-inputs c =
    let p = c.args.plan.now in
    c.in_ok-stepped.ensures.inputs (is_chosen (longer_plan p c.args.kind).kinds p.power) (λ e. write_chosen p c.args.kind c.len-place.result c.len-place.ensures e)
    (more_state c.args.graph.now (is_chosen p.kinds p.power) (is_chosen (longer_plan p c.args.kind).kinds p.power) (chosen_stays p.kinds c.args.kind p.power) c.args.request.now.state c.requires.request.state_inputs)

pub ways_given-requires-clause-stands : goal.ways_given-requires-clause-stands
ways_given-requires-clause-stands c = gives_to c.states_stay.ensures c.args.graph.now c.transfer.new.graph c.transfer.ensures.grown c.args.plan.now c.args.kind c.len-place.result c.len-place.ensures c.args.request.now.state c.in_ok-stepped.stepped c.requires.request.state c.in_ok-stepped.ensures.stands

pub returns-clause-grown : goal.returns-clause-grown
returns-clause-grown c = c.transfer.ensures.grown ▸ c.ways_given.ensures.grown

pub returns-clause-adds : goal.returns-clause-adds
returns-clause-adds c = adds_on 16 3 256 2 c.transfer.ensures.adds c.ways_given.ensures.adds
