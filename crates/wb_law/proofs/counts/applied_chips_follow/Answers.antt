use Rattle.wb_law.proofs.Capped.{applied_chips_follow}
use Rattle.wb_law.proofs.counts.applied_chips_follow.Goals as goal

pub returns : goal.returns
returns c = applied_chips_follow
