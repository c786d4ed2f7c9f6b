-- When a formula says a question.
use Rattle.std.specs.Prelude.{◌↔◌, ℕ, List}
use Rattle.wb_term.specs.Inputs.{Assignment, IsAssignment}
use Rattle.wb_gate.specs.Circuit.{Circuit}
use Rattle.wb_blast.specs.declared.places.Place.{Place}
use Rattle.wb_blast.specs.Places.{HasAssignment}
use Rattle.wb_rom.specs.declared.images.Image.{Image}
use Rattle.wb_port.specs.declared.accesses.Power.{Power}
use Rattle.wb_point.specs.declared.question.Query.{Query}
use Rattle.wb_point.specs.Holds.{HoldsUnder}

-- For all inputs, the formula has an assignment of them exactly where the question holds under them.
abbrev pub Says : Image → Image → ℕ → Power → Circuit → List Place → Query → Type 0
Says a b k p formula places q =
    (inputs : Assignment) → IsAssignment inputs
    → HasAssignment formula places inputs ↔ HoldsUnder a b k p q inputs
