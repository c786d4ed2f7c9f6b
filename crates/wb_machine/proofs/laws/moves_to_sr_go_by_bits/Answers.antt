use Rattle.wb_machine.proofs.StatusBits.{sr_by_bits}
use Rattle.wb_machine.proofs.laws.moves_to_sr_go_by_bits.Goals as goal

pub returns : goal.returns
returns c = sr_by_bits
