use Rattle.wb_law.proofs.Bounds.{points_are_reached_on_their_side}
use Rattle.wb_law.proofs.reached.points_are_reached_on_their_side.Goals as goal

pub returns : goal.returns
returns c = points_are_reached_on_their_side
