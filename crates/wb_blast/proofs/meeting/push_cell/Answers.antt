use Rattle.std.proofs.Common.{◌+◌, ◌-◌, ◌++◌, List, ap, ◌∙◌, arith}
use Rattle.wb_blast.specs.declared.places.Place.{Place}
use Rattle.wb_blast.specs.declared.places.Place.TheVariants.{Cell}
use Rattle.wb_blast.specs.Meeting.{places_down}
use Rattle.wb_blast.proofs.Owners.{pushed_down}
use Rattle.wb_blast.proofs.meeting.push_cell.Goals as goal

pub loop-at-preserved : goal.loop-at-preserved
loop-at-preserved c =
    let within = c.loop-at-test.true in
    ap (λ (ps : List Place). ps ++ places_down (Cell c.args.place) (16 - (c.loop-at.at + 1))) c.in_ok-push.ensures.items
    ∙ pushed_down (Cell c.args.place) c.loop-at.places.items (15 - c.loop-at.at) (16 - (c.loop-at.at + 1)) (16 - c.loop-at.at) (omega (arith, within)) (omega (arith, within))
    ∙ c.loop-at.invariant
