use Rattle.wb_law.proofs.Bounds.{bounds_hold_of_each_side}
use Rattle.wb_law.proofs.reached.bounds_hold_of_each_side.Goals as goal

pub returns : goal.returns
returns c = bounds_hold_of_each_side
