use Rattle.wb_explore.proofs.Growth.{◌▸◌}
use Rattle.wb_explore.proofs.Joining.{joins, joined_entry}
use Rattle.wb_explore.proofs.arrivals.join.Goals as goal

pub returns-in_err-cond-clause-grown : goal.returns-in_err-cond-clause-grown
returns-in_err-cond-clause-grown c = c.merge.ensures.grown ▸ c.mk_orb.ensures.grown

pub returns-clause-grown : goal.returns-clause-grown
returns-clause-grown c = c.merge.ensures.grown ▸ c.mk_orb.ensures.grown

pub returns-clause-joins : goal.returns-clause-joins
returns-clause-joins c = joins c.states_stay.ensures c.args.image.now c.args.plan.now c.args.graph.now c.merge.new.graph c.mk_orb.new.graph c.merge.ensures.grown c.mk_orb.ensures.grown c.args.entry c.args.other c.requires.entry c.requires.other c.requires.same c.in_ok-state.state c.in_ok-state.ensures.there c.in_ok-state.ensures.place c.in_ok-state.ensures.stands c.in_ok-state.ensures.inputs c.in_ok-cond.cond c.in_ok-cond.ensures.value c.in_ok-cond.ensures.inputs c.first_of-witness.result c.first_of-witness.ensures

pub returns-clause-entry : goal.returns-clause-entry
returns-clause-entry c = joined_entry c.states_stay.ensures c.args.image.now c.args.plan.now c.args.graph.now c.merge.new.graph c.mk_orb.new.graph c.merge.ensures.grown c.mk_orb.ensures.grown c.args.entry c.args.other c.requires.entry c.requires.other c.requires.same c.in_ok-state.state c.in_ok-state.ensures.there c.in_ok-state.ensures.place c.in_ok-state.ensures.stands c.in_ok-state.ensures.inputs c.in_ok-cond.cond c.in_ok-cond.ensures.value c.in_ok-cond.ensures.inputs c.first_of-witness.result c.first_of-witness.ensures
