use Rattle.std.proofs.Common.{ℕ, length}
use Rattle.wb_explored.proofs.tests.enumeration.+add_longer.Given as goal

abbrev pub decreases-add_longer : goal.decreases-add_longer
decreases-add_longer l = length l.kinds.now
