use Rattle.wb_law.proofs.Ranged.{moments_in}
use Rattle.wb_law.proofs.ranges.moments_are_in_range.Goals as goal

pub returns : goal.returns
returns c = moments_in c.ranges_are_kept.ensures c.starts_are_in_range.ensures
