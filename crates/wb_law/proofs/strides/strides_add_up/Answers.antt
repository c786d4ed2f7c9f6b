use Rattle.wb_law.proofs.Striding.{strides_add_up}
use Rattle.wb_law.proofs.strides.strides_add_up.Goals as goal

pub returns : goal.returns
returns c = strides_add_up
