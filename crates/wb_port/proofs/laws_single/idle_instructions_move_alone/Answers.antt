use Rattle.wb_port.proofs.Facts.{idle_moves}
use Rattle.wb_port.proofs.laws_single.idle_instructions_move_alone.Goals as goal

pub returns : goal.returns
returns c = idle_moves
