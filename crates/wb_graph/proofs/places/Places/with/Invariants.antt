use Rattle.std.proofs.Common.{◌≡◌, ℕ, false, length}
use Rattle.std.specs.Prelude.{◌||◌, if◌then◌else◌, nat_lt, slice_index_or}
use Rattle.wb_graph.specs.Places.{has_byte}
use Rattle.wb_graph.proofs.places.Places.with.Given as goal

abbrev pub invariant-loop-at : goal.invariant-loop-at
invariant-loop-at l = record {
  count : length l.bytes ≡ 16;
  byte : (place : ℕ) → slice_index_or l.bytes place false ≡ (if nat_lt place l.at then (has_byte l.self place || has_byte l.other place) else has_byte l.self place);
}
