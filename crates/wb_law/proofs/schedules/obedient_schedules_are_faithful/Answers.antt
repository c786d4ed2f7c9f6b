use Rattle.wb_law.proofs.Faithful.{every_schedule}
use Rattle.wb_law.proofs.schedules.obedient_schedules_are_faithful.Goals as goal

pub returns : goal.returns
returns c = every_schedule c.port_facts.ensures
