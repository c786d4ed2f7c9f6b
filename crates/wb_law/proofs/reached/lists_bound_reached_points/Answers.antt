use Rattle.wb_law.proofs.Bounds.{lists_bound_reached_points}
use Rattle.wb_law.proofs.reached.lists_bound_reached_points.Goals as goal

pub returns : goal.returns
returns c = lists_bound_reached_points
