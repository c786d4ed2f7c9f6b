use Rattle.std.proofs.Common.{◌≡◌, ℕ, ◌<◌, true}
use Rattle.wb_graph.specs.Places.{has_byte}
use Rattle.wb_graph.proofs.places.Places.are_within.Given as goal

abbrev pub invariant-loop-at : goal.invariant-loop-at
invariant-loop-at l = (place : ℕ) → place < l.at → has_byte l.self place ≡ true → has_byte l.other place ≡ true
