use Rattle.wb_port.proofs.SharedLoops.{loops_share_no_address}
use Rattle.wb_port.proofs.laws_loops.loops_share_no_address.Goals as goal

pub returns : goal.returns
returns c = loops_share_no_address
