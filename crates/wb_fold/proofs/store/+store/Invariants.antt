use Rattle.std.proofs.Common.{length}
use Rattle.wb_fold.proofs.store.+store.Given as goal

abbrev pub decreases-store : goal.decreases-store
decreases-store l = length l.bits.now
