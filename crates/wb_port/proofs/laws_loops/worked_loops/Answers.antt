use Rattle.wb_port.proofs.Samples.{worked_loops}
use Rattle.wb_port.proofs.laws_loops.worked_loops.Goals as goal

pub returns : goal.returns
returns c = worked_loops
