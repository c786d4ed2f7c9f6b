use Rattle.wb_law.proofs.Ranks.{stay_in_pace}
use Rattle.wb_law.proofs.points.held_chips_stay_in_pace.Goals as goal

pub returns : goal.returns
returns c = stay_in_pace c.port_facts.ensures
