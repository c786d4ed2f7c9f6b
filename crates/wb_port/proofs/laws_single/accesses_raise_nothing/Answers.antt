use Rattle.wb_port.proofs.Facts.{access_raises_nothing}
use Rattle.wb_port.proofs.laws_single.accesses_raise_nothing.Goals as goal

pub returns : goal.returns
returns c = access_raises_nothing
