use Rattle.wb_law.proofs.Ranks.{ranks_once}
use Rattle.wb_law.proofs.points.ranks_are_once.Goals as goal

pub returns : goal.returns
returns c = ranks_once c.port_facts.ensures
