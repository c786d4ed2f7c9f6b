use Rattle.wb_law.proofs.Eager.{bridge}
use Rattle.wb_law.proofs.schedules.replies_decide.Goals as goal

pub returns : goal.returns
returns c = bridge c.port_facts.ensures
