use Rattle.wb_law.proofs.Striding.{stopped_chips_stay}
use Rattle.wb_law.proofs.strides.stopped_chips_stay.Goals as goal

pub returns : goal.returns
returns c = stopped_chips_stay
