use Rattle.std.proofs.Common.{◌≤◌, length, drop}
use Rattle.wb_blast.specs.Meeting.{Stacks}
use Rattle.wb_blast.proofs.meeting.stack_up.Given as goal

abbrev pub invariant-loop-at : goal.invariant-loop-at
invariant-loop-at l = record {
  within : l.at ≤ length l.numbers;
  stacks : Stacks l.fn.stack.items l.stack.items (drop l.at l.numbers);
}

abbrev pub decreases-loop-at : goal.decreases-loop-at
decreases-loop-at l = l.at
