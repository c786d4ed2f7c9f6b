use Rattle.std.proofs.Common.{◌≡◌, length}
use Rattle.wb_equal.proofs.order.places_in.Given as goal

abbrev pub invariant-loop-place : goal.invariant-loop-place
invariant-loop-place l = length l.places.items ≡ length l.names
