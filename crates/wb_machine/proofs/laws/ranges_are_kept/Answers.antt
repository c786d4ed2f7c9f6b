use Rattle.wb_machine.proofs.Range.{next-in_range}
use Rattle.wb_machine.proofs.laws.ranges_are_kept.Goals as goal

pub returns : goal.returns
returns c = next-in_range
