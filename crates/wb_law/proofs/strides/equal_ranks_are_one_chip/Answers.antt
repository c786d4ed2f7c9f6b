use Rattle.wb_law.proofs.Striding.{equal_ranks_are_one_chip}
use Rattle.wb_law.proofs.strides.equal_ranks_are_one_chip.Goals as goal

pub returns : goal.returns
returns c = equal_ranks_are_one_chip c.port_facts.ensures
