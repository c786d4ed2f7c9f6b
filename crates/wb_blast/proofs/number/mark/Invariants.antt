use Rattle.std.proofs.Common.{take}
use Rattle.wb_blast.specs.Walk.{Marks}
use Rattle.wb_blast.proofs.number.mark.Given as goal

abbrev pub invariant-loop-number : goal.invariant-loop-number
invariant-loop-number l = Marks l.fn.scratch l.scratch (take l.number-index l.numbers)
