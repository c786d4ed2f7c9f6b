use Rattle.wb_law.proofs.Passed.{trails_hold_the_points}
use Rattle.wb_law.proofs.points.trails_hold_the_points.Goals as goal

pub returns : goal.returns
returns c = trails_hold_the_points
