use Rattle.std.proofs.Common.{◌∙◌, ap, sym}
use Rattle.wb_port.specs.Run.{Ends, turn}
use Rattle.wb_port.proofs.Playing.{begins, goes_next, lasts}
use Rattle.wb_port.proofs.replays.replay_into.Goals as goal

pub turn-turned-requires-clause-paced : goal.turn-turned-requires-clause-paced
turn-turned-requires-clause-paced c = c.loop-end.invariant.0.fit.small

pub turn-turned-requires-clause-room : goal.turn-turned-requires-clause-room
turn-turned-requires-clause-room c = c.loop-end.invariant.1

pub loop-end-init : goal.loop-end-init
loop-end-init c =
    (begins c.args.image.now c.args.pace c.args.held c.args.talk.now _ c.begin-now.ensures.moment, c.begin-now.ensures.room)

pub returns-in-Ended : goal.returns-in-Ended
returns-in-Ended c =
    let so_far = c.loop-end.invariant.0 in
    let last = c.in-Ended.ensures.turned in
    (so_far.count, ap (turn c.args.image.now c.args.pace c.args.held) so_far.way ∙ last.0 ∙ ap Ends (sym c.end.ensures))

pub loop-end-smaller : goal.loop-end-smaller
loop-end-smaller c =
    (goes_next c.args.image.now c.args.pace c.args.held c.args.talk.now c.turn-turned.result _ _ c.loop-end.invariant.0
    c.turn-turned.ensures.turned (lasts _ c.in_default.not-Ended)).less

pub loop-end-preserved : goal.loop-end-preserved
loop-end-preserved c = (
  (goes_next c.args.image.now c.args.pace c.args.held c.args.talk.now c.turn-turned.result _ _ c.loop-end.invariant.0
      c.turn-turned.ensures.turned (lasts _ c.in_default.not-Ended)).so_far,
  c.turn-turned.ensures.room,
)
