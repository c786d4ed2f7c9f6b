use Rattle.std.proofs.Common.{sym}
use Rattle.wb_explore.proofs.Passing.{addr_is}
use Rattle.wb_explore.proofs.visiting.breach.Goals as goal

pub returns-in-Ok : goal.returns-in-Ok
returns-in-Ok c = (c.in-Ok.ensures, sym (addr_is _))
