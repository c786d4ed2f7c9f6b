use Rattle.wb_law.proofs.Bounds.{bounds_of_sides_add_up}
use Rattle.wb_law.proofs.reached.bounds_of_sides_add_up.Goals as goal

pub returns : goal.returns
returns c = bounds_of_sides_add_up
