use Rattle.wb_law.proofs.Bounds.{greater_bounds_hold}
use Rattle.wb_law.proofs.reached.greater_bounds_hold.Goals as goal

pub returns : goal.returns
returns c = greater_bounds_hold
