use Rattle.wb_port.proofs.Facts.{one_gate}
use Rattle.wb_port.proofs.laws_single.loops_have_one_gate.Goals as goal

pub returns : goal.returns
returns c = one_gate
