use Rattle.wb_point.proofs.MergeBits.{MergingBits}
use Rattle.wb_point.proofs.lists.merge_bits.Given as goal

abbrev pub invariant-loop-at : goal.invariant-loop-at
invariant-loop-at l = MergingBits l.fn.graph l.graph l.cond l.yes l.no l.bits.items l.at
