use Rattle.std.proofs.Common.{length}
use Rattle.wb_fold.proofs.select.+select.Given as goal

abbrev pub decreases-select : goal.decreases-select
decreases-select l = length l.bits.now
