use Rattle.std.proofs.Common.{◌≡◌, ◌++◌, ◌-◌}
use Rattle.wb_blast.specs.declared.places.Place.TheVariants.{Cell}
use Rattle.wb_blast.specs.Meeting.{places_down}
use Rattle.wb_blast.proofs.meeting.push_cell.Given as goal

abbrev pub invariant-loop-at : goal.invariant-loop-at
invariant-loop-at l = l.places.items ++ places_down (Cell l.place) (16 - l.at) ≡ l.fn.places.items ++ places_down (Cell l.place) 16
