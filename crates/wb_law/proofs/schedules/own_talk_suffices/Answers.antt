use Rattle.wb_law.proofs.Faithful.{own_talk}
use Rattle.wb_law.proofs.schedules.own_talk_suffices.Goals as goal

pub returns : goal.returns
returns c = own_talk c.port_facts.ensures
