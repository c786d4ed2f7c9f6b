use Rattle.std.proofs.Common.{◌≡◌, ◌++◌, ◌-◌}
use Rattle.wb_blast.specs.declared.places.Place.TheVariants.{Byte}
use Rattle.wb_blast.specs.Meeting.{places_down}
use Rattle.wb_blast.proofs.meeting.push_byte.Given as goal

abbrev pub invariant-loop-at : goal.invariant-loop-at
invariant-loop-at l = l.places.items ++ places_down (Byte l.place) (8 - l.at) ≡ l.fn.places.items ++ places_down (Byte l.place) 8
