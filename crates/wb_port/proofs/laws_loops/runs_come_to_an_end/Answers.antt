use Rattle.wb_port.proofs.Promises.{runs_come_to_an_end}
use Rattle.wb_port.proofs.laws_loops.runs_come_to_an_end.Goals as goal

pub returns : goal.returns
returns c = runs_come_to_an_end
