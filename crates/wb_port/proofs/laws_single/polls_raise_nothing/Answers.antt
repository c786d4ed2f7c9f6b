use Rattle.wb_port.proofs.Facts.{poll_raises_nothing}
use Rattle.wb_port.proofs.laws_single.polls_raise_nothing.Goals as goal

pub returns : goal.returns
returns c = poll_raises_nothing
