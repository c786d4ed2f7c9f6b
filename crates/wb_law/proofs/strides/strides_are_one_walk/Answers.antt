use Rattle.wb_law.proofs.Striding.{strides_are_one_walk}
use Rattle.wb_law.proofs.strides.strides_are_one_walk.Goals as goal

pub returns : goal.returns
returns c = strides_are_one_walk
