use Rattle.std.proofs.Common.{◌∙◌, ◌∷◌, ◌++◌, [], List, ap}
use Rattle.wb_port.specs.declared.points.Point.{Point}
use Rattle.wb_port.proofs.Playing.{lasts}
use Rattle.wb_port.proofs.Passing.{trail_begins, trail_next, trail_ends}
use Rattle.wb_port.proofs.trails.points_passed.Goals as goal

pub turn-turned-requires-clause-room : goal.turn-turned-requires-clause-room
turn-turned-requires-clause-room c = c.loop-points.invariant.1

pub loop-points-init : goal.loop-points-init
loop-points-init c = (
  trail_begins c.args.image.now c.args.side c.args.pace c.args.talk.now _ _ c.begin-now.ensures.moment
      (c.in_ok-push.ensures.ok
      ∙ ap (λ (ps : List Point). ps ++ c.in_ok-point.field-0 ∷ []) c.new-points.ensures
      ∙ ap (λ (p : Point). p ∷ []) c.in_ok-point.ensures),
  c.begin-now.ensures.room,
)

pub returns-in-Ended : goal.returns-in-Ended
returns-in-Ended c =
    trail_ends c.args.image.now c.args.side c.args.pace c.args.talk.now c.turn-turned.result c.in-Ended.field-0 _ _ _
    c.loop-points.invariant.0 c.turn-turned.ensures.turned c.in-Ended.is

pub loop-points-smaller : goal.loop-points-smaller
loop-points-smaller c =
    (trail_next c.args.image.now c.args.side c.args.pace c.args.talk.now c.turn-turned.result _ _ _ _
    c.loop-points.invariant.0 c.turn-turned.ensures.turned (lasts _ c.in_default.not-Ended) c.in_ok-note.ensures).less

pub loop-points-preserved : goal.loop-points-preserved
loop-points-preserved c = (
  (trail_next c.args.image.now c.args.side c.args.pace c.args.talk.now c.turn-turned.result _ _ _ _
      c.loop-points.invariant.0 c.turn-turned.ensures.turned (lasts _ c.in_default.not-Ended) c.in_ok-note.ensures).trail,
  c.turn-turned.ensures.room,
)
