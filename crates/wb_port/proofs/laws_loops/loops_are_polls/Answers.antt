use Rattle.wb_port.proofs.Promises.{loops_are_polls}
use Rattle.wb_port.proofs.laws_loops.loops_are_polls.Goals as goal

pub returns : goal.returns
returns c = loops_are_polls
