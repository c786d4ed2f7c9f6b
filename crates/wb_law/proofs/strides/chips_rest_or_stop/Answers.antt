use Rattle.wb_law.proofs.Striding.{chips_rest_or_stop}
use Rattle.wb_law.proofs.strides.chips_rest_or_stop.Goals as goal

pub returns : goal.returns
returns c = chips_rest_or_stop c.port_facts.ensures
