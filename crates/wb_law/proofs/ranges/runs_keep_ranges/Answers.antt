use Rattle.wb_law.proofs.Ranged.{runs_in}
use Rattle.wb_law.proofs.ranges.runs_keep_ranges.Goals as goal

pub returns : goal.returns
returns c = runs_in c.ranges_are_kept.ensures c.starts_are_in_range.ensures
