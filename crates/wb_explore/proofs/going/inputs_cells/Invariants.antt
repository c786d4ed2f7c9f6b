use Rattle.std.proofs.Common.{◌≡◌, take}
use Rattle.wb_explore.proofs.going.inputs_cells.Given as goal

abbrev pub invariant-loop-place : goal.invariant-loop-place
invariant-loop-place l = l.cells.items ≡ take l.place l.fn.inputs.cells
