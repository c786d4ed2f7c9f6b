use Rattle.std.proofs.Common.{◌≤◌, length, drop}
use Rattle.wb_blast.specs.Meeting.{StacksBits}
use Rattle.wb_blast.proofs.meeting.stack_bits.Given as goal

abbrev pub invariant-loop-at : goal.invariant-loop-at
invariant-loop-at l = record {
  within : l.at ≤ length l.bits;
  stacks : StacksBits (drop l.at l.bits) l.stack.items;
}

abbrev pub decreases-loop-at : goal.decreases-loop-at
decreases-loop-at l = l.at
