use Rattle.wb_port.proofs.Promises.{polls_begin_loops}
use Rattle.wb_port.proofs.laws_loops.polls_begin_loops.Goals as goal

pub returns : goal.returns
returns c = polls_begin_loops
