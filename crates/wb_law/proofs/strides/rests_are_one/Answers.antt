use Rattle.wb_law.proofs.Striding.{rests_are_one}
use Rattle.wb_law.proofs.strides.rests_are_one.Goals as goal

pub returns : goal.returns
returns c = rests_are_one
