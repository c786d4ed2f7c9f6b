use Rattle.wb_port.proofs.Facts.{gate_near}
use Rattle.wb_port.proofs.laws_single.gates_are_near.Goals as goal

pub returns : goal.returns
returns c = gate_near
