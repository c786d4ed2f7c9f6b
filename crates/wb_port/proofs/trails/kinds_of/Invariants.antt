use Rattle.std.proofs.Common.{◌≡◌, ◌≤◌, take}
use Rattle.wb_port.specs.Talk.{kinds}
use Rattle.wb_port.proofs.trails.kinds_of.Given as goal

abbrev pub invariant-loop-place : goal.invariant-loop-place
invariant-loop-place l = (l.found ≡ kinds (take l.place l.accesses)) × (l.place ≤ l.given)
