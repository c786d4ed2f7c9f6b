use Rattle.wb_law.proofs.Striding.{resting_chips_stay}
use Rattle.wb_law.proofs.strides.resting_chips_stay.Goals as goal

pub returns : goal.returns
returns c = resting_chips_stay
