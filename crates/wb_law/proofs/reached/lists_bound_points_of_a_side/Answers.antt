use Rattle.wb_law.proofs.Bounds.{lists_bound_points_of_a_side}
use Rattle.wb_law.proofs.reached.lists_bound_points_of_a_side.Goals as goal

pub returns : goal.returns
returns c = lists_bound_points_of_a_side
