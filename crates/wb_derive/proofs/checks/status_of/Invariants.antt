use Rattle.std.proofs.Common.{◌≡◌, take}
use Rattle.wb_derive.specs.Course.{partial_of, status}
use Rattle.wb_derive.proofs.checks.status_of.Given as goal

abbrev pub invariant-loop-lit : goal.invariant-loop-lit
invariant-loop-lit l = l.so_far ≡ status (partial_of l.marks.items l.stamp) (take l.lit-index l.clause)
