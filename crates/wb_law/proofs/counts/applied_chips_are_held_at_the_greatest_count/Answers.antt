use Rattle.wb_law.proofs.Counting.{applied_chips_are_held_at_the_greatest_count}
use Rattle.wb_law.proofs.counts.applied_chips_are_held_at_the_greatest_count.Goals as goal

pub returns : goal.returns
returns c = applied_chips_are_held_at_the_greatest_count c.applied_chips_follow.ensures
