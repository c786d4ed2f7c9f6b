use Rattle.wb_law.proofs.HeldPoints.{points_after_accesses}
use Rattle.wb_law.proofs.points.points_are_passed_after_accesses.Goals as goal

pub returns : goal.returns
returns c = points_after_accesses
