use Rattle.std.proofs.Common.{sym}
use Rattle.wb_explore.proofs.Refusals.{on_ok}
use Rattle.wb_explore.proofs.Passing.{busy, done_overrunning, done_going, breaks_there}
use Rattle.wb_explore.proofs.visiting.pass.Goals as goal

pub go_on-requires-clause-goes : goal.go_on-requires-clause-goes
go_on-requires-clause-goes c = busy c.args.image.now c.args.plan.now.pace c.args.entry.now.key c.requires.entry.count (sym c.in-GoesOn.ensures)

pub returns-in_ok-remember-in-Overruns-clause-done : goal.returns-in_ok-remember-in-Overruns-clause-done
returns-in_ok-remember-in-Overruns-clause-done c = done_overrunning c.held_laws.ensures c.dialogues_are_of_their_kinds.ensures c.states_stay.ensures c.args.image.now c.args.plan.now c.args.graph.now c.args.entry.now c.requires.entry c.requires.sound c.requires.found c.args.purse.now.reached c.args.pending.now.items c.requires.pending c.requires.ahead c.args.overrun.now c.requires.right (sym c.in-Overruns.ensures) _ c.in_ok-remember-in-Overruns.ensures

pub returns-in-Breaches-clause-fault : goal.returns-in-Breaches-clause-fault
returns-in-Breaches-clause-fault c = breaks_there c.held_laws.ensures c.dialogues_are_of_their_kinds.ensures c.states_stay.ensures c.args.image.now c.args.plan.now c.args.graph.now c.args.entry.now c.requires.entry c.requires.sound c.requires.found (sym c.in-Breaches.ensures) c.breach.result c.breach.ensures c.args.purse.now

pub returns-in-GoesOn-clause-done : goal.returns-in-GoesOn-clause-done
returns-in-GoesOn-clause-done c = on_ok c.go_on.result (done_going c.held_laws.ensures c.dialogues_are_of_their_kinds.ensures c.states_stay.ensures c.args.image.now c.args.plan.now c.args.graph.now c.args.entry.now c.requires.entry c.requires.sound c.requires.found c.args.purse.now.reached c.args.pending.now.items c.requires.pending c.requires.ahead c.args.overrun.now c.requires.right c.go_on.new.graph c.go_on.new.purse.reached c.go_on.new.pending.items (sym c.in-GoesOn.ensures)) c.go_on.ensures.gone
