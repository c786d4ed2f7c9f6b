use Rattle.wb_law.proofs.Ranged.{schedules_in}
use Rattle.wb_law.proofs.ranges.schedules_keep_ranges.Goals as goal

pub returns : goal.returns
returns c = schedules_in c.ranges_are_kept.ensures
