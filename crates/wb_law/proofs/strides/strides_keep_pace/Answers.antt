use Rattle.wb_law.proofs.Striding.{strides_keep_pace}
use Rattle.wb_law.proofs.strides.strides_keep_pace.Goals as goal

pub returns : goal.returns
returns c = strides_keep_pace c.port_facts.ensures
