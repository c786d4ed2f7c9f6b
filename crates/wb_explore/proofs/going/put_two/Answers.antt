use Rattle.wb_explore.proofs.Growth.{◌▸◌}
use Rattle.wb_explore.proofs.Growing.{entry_grown, sound_grown, above_grown}
use Rattle.wb_explore.specs.Plans.{runs_of}
use Rattle.wb_explore.proofs.Refusals.{if_err, on_ok}
use Rattle.wb_explore.proofs.Onward.{adds_on, put_two, adds_passed, unput_later}
use Rattle.wb_explore.proofs.going.put_two.Goals as goal

pub arrive_ahead-requires-2-clause-entry : goal.arrive_ahead-requires-2-clause-entry
arrive_ahead-requires-2-clause-entry c = entry_grown c.states_stay.ensures c.args.image.now c.args.plan.now c.args.graph.now c.arrive_ahead.new.graph c.arrive_ahead.ensures.grown c.args.two c.requires.two

pub arrive_ahead-requires-2-clause-sound : goal.arrive_ahead-requires-2-clause-sound
arrive_ahead-requires-2-clause-sound c = sound_grown c.states_stay.ensures c.args.image.now c.args.plan.now c.args.graph.now c.arrive_ahead.new.graph c.arrive_ahead.ensures.grown (runs_of c.args.image.now c.args.plan.now) c.args.two c.requires.two c.requires.two_sound

pub arrive_ahead-requires-2-clause-above : goal.arrive_ahead-requires-2-clause-above
arrive_ahead-requires-2-clause-above c = above_grown c.states_stay.ensures c.args.image.now c.args.plan.now c.args.graph.now c.arrive_ahead.new.graph c.arrive_ahead.ensures.grown c.args.bound c.args.two c.requires.two c.requires.two_above

pub returns-clause-put : goal.returns-clause-put
returns-clause-put c = on_ok c.arrive_ahead-2.result (λ y. put_two c.args.image.now c.args.plan.now c.states_stay.ensures c.args.graph.now c.arrive_ahead.new.graph c.arrive_ahead-2.new.graph c.arrive_ahead.ensures.grown c.args.purse.now.reached c.arrive_ahead.new.purse.reached c.arrive_ahead-2.new.purse.reached c.args.pending.now.items c.arrive_ahead.new.pending.items c.arrive_ahead-2.new.pending.items c.args.one c.args.two c.args.bound c.requires.two c.in_ok-arrive_ahead.ensures.put y) c.arrive_ahead-2.ensures.put

pub returns-clause-fault : goal.returns-clause-fault
returns-clause-fault c = if_err c.arrive_ahead-2.result (unput_later c.args.image.now c.args.plan.now c.args.purse.now c.arrive_ahead.new.purse c.arrive_ahead.ensures.passed c.arrive_ahead.ensures.budget) c.arrive_ahead-2.ensures.fault

pub returns-clause-passed : goal.returns-clause-passed
returns-clause-passed c = adds_passed c.args.image.now c.args.plan.now c.args.purse.now.reached c.arrive_ahead.new.purse.reached c.arrive_ahead-2.new.purse.reached c.arrive_ahead.ensures.passed c.arrive_ahead-2.ensures.passed

pub returns-clause-grown : goal.returns-clause-grown
returns-clause-grown c = c.arrive_ahead.ensures.grown ▸ c.arrive_ahead-2.ensures.grown

pub returns-clause-adds : goal.returns-clause-adds
returns-clause-adds c = adds_on 301 301 5001 5001 c.arrive_ahead.ensures.adds c.arrive_ahead-2.ensures.adds
