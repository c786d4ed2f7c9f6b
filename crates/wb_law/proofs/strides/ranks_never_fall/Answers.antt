use Rattle.wb_law.proofs.Striding.{ranks_never_fall}
use Rattle.wb_law.proofs.strides.ranks_never_fall.Goals as goal

pub returns : goal.returns
returns c = ranks_never_fall c.port_facts.ensures
