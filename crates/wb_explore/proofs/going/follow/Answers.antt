use Rattle.wb_explore.specs.Plans.{is_chosen}
use Rattle.wb_explore.proofs.Growth.{◌▸◌}
use Rattle.wb_explore.proofs.Growing.{entry_grown}
use Rattle.wb_explore.proofs.Following.{entry_place, steps_to}
use Rattle.wb_explore.proofs.going.follow.Goals as goal

pub arrivals_of-requires-clause-entry : goal.arrivals_of-requires-clause-entry
arrivals_of-requires-clause-entry c = entry_grown c.states_stay.ensures c.args.image.now c.args.plan.now c.args.graph.now c.sym_step.new.graph c.sym_step.ensures.grown c.args.entry.now c.requires.entry

pub arrivals_of-requires-clause-place : goal.arrivals_of-requires-clause-place
arrivals_of-requires-clause-place c = entry_place c.args.graph.now c.args.image.now c.args.plan.now c.args.entry.now c.requires.entry

pub arrivals_of-requires-clause-inputs : goal.arrivals_of-requires-clause-inputs
arrivals_of-requires-clause-inputs c = c.in_ok-stepped.ensures.inputs (is_chosen c.args.plan.now.kinds c.args.plan.now.power) c.requires.entry.state_inputs

pub arrivals_of-requires-clause-stands : goal.arrivals_of-requires-clause-stands
arrivals_of-requires-clause-stands c = steps_to c.states_stay.ensures c.args.graph.now c.sym_step.new.graph c.sym_step.ensures.grown c.args.image.now c.args.plan.now c.args.entry.now c.in_ok-stepped.stepped c.requires.entry c.in_ok-stepped.ensures.stands

pub returns-clause-grown : goal.returns-clause-grown
returns-clause-grown c = c.sym_step.ensures.grown ▸ c.arrivals_of.ensures.grown
