use Rattle.std.proofs.Common.{◌≡◌, take}
use Rattle.wb_explore.proofs.reached.Reached.copy.Given as goal

abbrev pub invariant-loop-place : goal.invariant-loop-place
invariant-loop-place l = l.items.items ≡ take l.place l.self
