use Rattle.wb_law.proofs.HeldPoints.{last_points}
use Rattle.wb_law.proofs.points.last_points_are_passed_after_all.Goals as goal

pub returns : goal.returns
returns c = last_points
