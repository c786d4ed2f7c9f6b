use Rattle.wb_law.proofs.InRange.{stay_in_range}
use Rattle.wb_law.proofs.Ranged.{access_in}
use Rattle.wb_law.proofs.ranges.striding_chips_stay_in_range.Goals as goal

pub returns : goal.returns
returns c = stay_in_range c.ranges_are_kept.ensures c.starts_are_in_range.ensures access_in
