use Rattle.wb_law.proofs.Ranks.{ranks_rise}
use Rattle.wb_law.proofs.points.ranks_rise.Goals as goal

pub returns : goal.returns
returns c = ranks_rise c.port_facts.ensures
