use Rattle.std.proofs.Common.{◌≡◌, ◌<◌, ◌≤◌, ℕ, Some}
use Rattle.std.specs.List.{slice_get}
use Rattle.wb_derive.specs.declared.scratch.Mark.{Mark}
use Rattle.wb_derive.proofs.scratch.clear.Given as goal

abbrev pub invariant-loop-mark : goal.invariant-loop-mark
invariant-loop-mark l = (k : ℕ) (mark : Mark) → k < l.mark-index → slice_get l.mark-items k ≡ Some mark → mark.stamp ≤ 0
