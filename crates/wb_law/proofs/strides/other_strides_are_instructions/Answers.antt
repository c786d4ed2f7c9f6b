use Rattle.wb_law.proofs.Striding.{other_strides_are_instructions}
use Rattle.wb_law.proofs.strides.other_strides_are_instructions.Goals as goal

pub returns : goal.returns
returns c = other_strides_are_instructions
