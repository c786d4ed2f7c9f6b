use Rattle.std.proofs.Common.{length}
use Rattle.wb_explore.proofs.Up.{taken_up}
use Rattle.wb_explore.proofs.Turning.{room_taken}
use Rattle.wb_explore.proofs.walking.turn.Goals as goal

pub advance-requires-clause-up : goal.advance-requires-clause-up
advance-requires-clause-up g c = taken_up c.held_laws.ensures c.args.image.now c.args.plan.now c.args.graph.now c.args.purse.now.reached c.args.pending.now.items c.take_least.new.pending.items c.in-Some.entry c.args.findings.now.requests.items c.args.findings.now.overrun c.requires.under_way c.in-Some.ensures.0 c.in-Some.ensures.1

pub advance-requires-clause-room : goal.advance-requires-clause-room
advance-requires-clause-room g c = room_taken c.args.graph.now (length c.args.purse.now.reached) c.args.purse.now.budget.points c.args.pending.now.items c.take_least.new.pending.items c.in-Some.entry c.in-Some.ensures.0 c.requires.room
