use Rattle.std.proofs.Common.{List, subst}
use Rattle.wb_explore.specs.declared.entries.Entry.{Entry}
use Rattle.wb_explore.specs.Plans.{runs_of}
use Rattle.wb_explore.specs.Pending.{AreAllFound}
use Rattle.wb_explore.proofs.Growth.{◌▸◌}
use Rattle.wb_explore.proofs.Growing.{entry_grown, sound_grown}
use Rattle.wb_explore.proofs.Refusals.{if_err, on_ok}
use Rattle.wb_explore.proofs.Onward.{adds_on, adds_passed, unput_later}
use Rattle.wb_explore.proofs.Serving.{found_fresh, put_both, none_alone, has_grown, still_both}
use Rattle.wb_explore.proofs.transfers.put_both.Goals as goal

pub arrive-requires-clause-fresh : goal.arrive-requires-clause-fresh
arrive-requires-clause-fresh c = found_fresh c.args.image.now c.args.plan.now c.args.graph.now c.args.purse.now.reached c.args.pending.now.items c.args.one c.requires.one c.requires.found

pub arrive-requires-2-clause-entry : goal.arrive-requires-2-clause-entry
arrive-requires-2-clause-entry c = entry_grown c.states_stay.ensures c.args.image.now c.args.plan.now c.args.graph.now c.arrive.new.graph c.arrive.ensures.grown c.args.two c.requires.two

pub arrive-requires-2-clause-sound : goal.arrive-requires-2-clause-sound
arrive-requires-2-clause-sound c = sound_grown c.states_stay.ensures c.args.image.now c.args.plan.now c.args.graph.now c.arrive.new.graph c.arrive.ensures.grown (runs_of c.args.image.now c.args.plan.now) c.args.two c.requires.two c.requires.two_sound

pub arrive-requires-2-clause-fresh : goal.arrive-requires-2-clause-fresh
arrive-requires-2-clause-fresh c =
    found_fresh c.args.image.now c.args.plan.now c.arrive.new.graph c.arrive.new.purse.reached c.arrive.new.pending.items c.args.two
    (entry_grown c.states_stay.ensures c.args.image.now c.args.plan.now c.args.graph.now c.arrive.new.graph c.arrive.ensures.grown c.args.two c.requires.two)
    (c.in_ok-arrive.ensures.put.found c.requires.found)

pub returns-in_err-arrive-clause-still : goal.returns-in_err-arrive-clause-still
returns-in_err-arrive-clause-still c = λ none same. c.arrive.ensures.alone (none_alone c.args.pending.now.items c.args.one.key none)

pub returns-clause-put : goal.returns-clause-put
returns-clause-put c =
    on_ok c.arrive-2.result
    (λ y. put_both c.args.image.now c.args.plan.now c.states_stay.ensures c.args.graph.now c.arrive.new.graph c.arrive-2.new.graph c.arrive.ensures.grown c.args.purse.now.reached c.arrive.new.purse.reached c.arrive-2.new.purse.reached c.args.pending.now.items c.arrive.new.pending.items c.arrive-2.new.pending.items c.args.one c.args.two c.requires.two c.requires.found c.in_ok-arrive.ensures.put y)
    c.arrive-2.ensures.put

pub returns-clause-fault : goal.returns-clause-fault
returns-clause-fault c = if_err c.arrive-2.result (unput_later c.args.image.now c.args.plan.now c.args.purse.now c.arrive.new.purse c.arrive.ensures.passed c.arrive.ensures.budget) c.arrive-2.ensures.fault

pub returns-clause-passed : goal.returns-clause-passed
returns-clause-passed c = adds_passed c.args.image.now c.args.plan.now c.args.purse.now.reached c.arrive.new.purse.reached c.arrive-2.new.purse.reached c.arrive.ensures.passed c.arrive-2.ensures.passed

pub returns-clause-grown : goal.returns-clause-grown
returns-clause-grown c = c.arrive.ensures.grown ▸ c.arrive-2.ensures.grown

pub returns-clause-adds : goal.returns-clause-adds
returns-clause-adds c = adds_on 301 301 5001 5001 c.arrive.ensures.adds c.arrive-2.ensures.adds

pub returns-clause-still : goal.returns-clause-still
returns-clause-still c = λ none same.
    let all = subst (AreAllFound c.args.plan.now c.args.purse.now.reached) none c.requires.found in
    let more = has_grown c.args.image.now c.args.plan.now c.args.purse.now.reached c.arrive.new.purse.reached c.args.one.key all c.arrive.ensures.passed c.requires.one.side c.requires.one.kinds (c.in_ok-arrive.ensures.put.noted c.requires.first) in
    still_both c.args.image.now c.args.plan.now c.args.graph.now c.arrive-2.new.graph c.args.purse.now.reached c.arrive.new.purse.reached c.arrive-2.new.purse.reached c.arrive-2.ensures.passed more same
