use Rattle.wb_law.proofs.Bounds.{greater_bounds_hold_of_a_side}
use Rattle.wb_law.proofs.reached.greater_bounds_hold_of_a_side.Goals as goal

pub returns : goal.returns
returns c = greater_bounds_hold_of_a_side
