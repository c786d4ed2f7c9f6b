use Rattle.wb_law.proofs.Counting.{counts_are_at_most_the_steps}
use Rattle.wb_law.proofs.counts.counts_are_at_most_the_steps.Goals as goal

pub returns : goal.returns
returns c = counts_are_at_most_the_steps
