use Rattle.std.proofs.Common.{◌+◌, ◌-◌, ◌++◌, List, ap, ◌∙◌, arith}
use Rattle.wb_blast.specs.declared.places.Place.{Place}
use Rattle.wb_blast.specs.declared.places.Place.TheVariants.{Byte}
use Rattle.wb_blast.specs.Meeting.{places_down}
use Rattle.wb_blast.proofs.Owners.{pushed_down}
use Rattle.wb_blast.proofs.meeting.push_byte.Goals as goal

pub loop-at-preserved : goal.loop-at-preserved
loop-at-preserved c =
    let within = c.loop-at-test.true in
    ap (λ (ps : List Place). ps ++ places_down (Byte c.args.place) (8 - (c.loop-at.at + 1))) c.in_ok-push.ensures.items
    ∙ pushed_down (Byte c.args.place) c.loop-at.places.items (7 - c.loop-at.at) (8 - (c.loop-at.at + 1)) (8 - c.loop-at.at) (omega (arith, within)) (omega (arith, within))
    ∙ c.loop-at.invariant
