use Rattle.wb_explore.specs.Plans.{runs_of}
use Rattle.wb_explore.specs.Pending.{entry_view, IsEntry, IsAbove, list_of}
use Rattle.wb_explore.specs.Entries.{IsSound}
use Rattle.wb_explore.proofs.Growth.{◌▸◌}
use Rattle.wb_explore.proofs.Growing.{entry_grown, sound_grown, pending_grown}
use Rattle.wb_explore.proofs.Putting.{talks}
use Rattle.wb_explore.proofs.Refusals.{on_ok}
use Rattle.wb_explore.proofs.Onward.{adds_on, each_from, follows_above, arrival_sound, gone_on}
use Rattle.wb_explore.proofs.going.go_on.Goals as goal

pub put_arrivals-requires-clause-pending : goal.put_arrivals-requires-clause-pending
put_arrivals-requires-clause-pending c = pending_grown c.states_stay.ensures c.args.image.now c.args.plan.now c.args.graph.now c.follow.new.graph c.follow.ensures.grown c.args.purse.now.reached c.args.pending.now.items c.requires.pending

pub put_arrivals-requires-clause-entries : goal.put_arrivals-requires-clause-entries
put_arrivals-requires-clause-entries c = each_from (IsEntry c.follow.new.graph c.args.image.now c.args.plan.now) c.in_ok-arrivals.arrivals c.in_ok-arrivals.ensures.arrivals.each

pub put_arrivals-requires-clause-sound : goal.put_arrivals-requires-clause-sound
put_arrivals-requires-clause-sound c =
    let x = entry_grown c.states_stay.ensures c.args.image.now c.args.plan.now c.args.graph.now c.follow.new.graph c.follow.ensures.grown c.args.entry.now c.requires.entry in
    let s = sound_grown c.states_stay.ensures c.args.image.now c.args.plan.now c.args.graph.now c.follow.new.graph c.follow.ensures.grown (runs_of c.args.image.now c.args.plan.now) c.args.entry.now c.requires.entry c.requires.sound in
    each_from (IsSound (entry_view c.follow.new.graph) (runs_of c.args.image.now c.args.plan.now)) c.in_ok-arrivals.arrivals
    (λ n listed. arrival_sound c.held_laws.ensures (talks c.held_laws.ensures c.dialogues_are_of_their_kinds.ensures c.states_stay.ensures) c.states_stay.ensures c.args.image.now c.args.plan.now c.follow.new.graph c.args.entry.now x s c.requires.class n (c.in_ok-arrivals.ensures.arrivals.follow n listed))

pub put_arrivals-requires-clause-above : goal.put_arrivals-requires-clause-above
put_arrivals-requires-clause-above c =
    let x = entry_grown c.states_stay.ensures c.args.image.now c.args.plan.now c.args.graph.now c.follow.new.graph c.follow.ensures.grown c.args.entry.now c.requires.entry in
    let s = sound_grown c.states_stay.ensures c.args.image.now c.args.plan.now c.args.graph.now c.follow.new.graph c.follow.ensures.grown (runs_of c.args.image.now c.args.plan.now) c.args.entry.now c.requires.entry c.requires.sound in
    each_from (IsAbove c.follow.new.graph c.args.image.now c.args.plan.now c.args.entry.now.rank) c.in_ok-arrivals.arrivals
    (λ n listed. follows_above c.held_laws.ensures (talks c.held_laws.ensures c.dialogues_are_of_their_kinds.ensures c.states_stay.ensures) c.states_stay.ensures c.args.image.now c.args.plan.now c.follow.new.graph c.args.entry.now x s c.requires.class n (c.in_ok-arrivals.ensures.arrivals.each n listed) (c.in_ok-arrivals.ensures.arrivals.follow n listed))

pub returns-clause-gone : goal.returns-clause-gone
returns-clause-gone c =
    let x = entry_grown c.states_stay.ensures c.args.image.now c.args.plan.now c.args.graph.now c.follow.new.graph c.follow.ensures.grown c.args.entry.now c.requires.entry in
    let s = sound_grown c.states_stay.ensures c.args.image.now c.args.plan.now c.args.graph.now c.follow.new.graph c.follow.ensures.grown (runs_of c.args.image.now c.args.plan.now) c.args.entry.now c.requires.entry c.requires.sound in
    on_ok c.put_arrivals.result
    (gone_on c.held_laws.ensures (talks c.held_laws.ensures c.dialogues_are_of_their_kinds.ensures c.states_stay.ensures) c.states_stay.ensures c.args.image.now c.args.plan.now c.follow.new.graph c.args.entry.now x s c.requires.class c.args.graph.now c.put_arrivals.new.graph c.follow.ensures.grown c.requires.entry c.args.purse.now.reached c.put_arrivals.new.purse.reached c.args.pending.now.items c.put_arrivals.new.pending.items (list_of c.in_ok-arrivals.arrivals) c.requires.pending c.in_ok-arrivals.ensures.arrivals)
    c.put_arrivals.ensures.put

pub returns-clause-grown : goal.returns-clause-grown
returns-clause-grown c = c.follow.ensures.grown ▸ c.put_arrivals.ensures.grown

pub returns-clause-adds : goal.returns-clause-adds
returns-clause-adds c = adds_on 1203 602 120002 10002 c.follow.ensures.adds c.put_arrivals.ensures.adds
