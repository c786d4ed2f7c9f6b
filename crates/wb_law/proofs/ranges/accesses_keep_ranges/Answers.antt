use Rattle.wb_law.proofs.Ranged.{access_in}
use Rattle.wb_law.proofs.ranges.accesses_keep_ranges.Goals as goal

pub returns : goal.returns
returns c = access_in
