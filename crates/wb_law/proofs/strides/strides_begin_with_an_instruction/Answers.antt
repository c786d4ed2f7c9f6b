use Rattle.wb_law.proofs.Striding.{strides_begin_with_an_instruction}
use Rattle.wb_law.proofs.strides.strides_begin_with_an_instruction.Goals as goal

pub returns : goal.returns
returns c = strides_begin_with_an_instruction
