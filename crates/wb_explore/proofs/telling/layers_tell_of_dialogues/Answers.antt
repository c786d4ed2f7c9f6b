use Rattle.wb_explore.proofs.Told.{layers_tell}
use Rattle.wb_explore.proofs.telling.layers_tell_of_dialogues.Goals as goal

pub returns : goal.returns
returns c g image l is d talk planned = layers_tell c.held_laws.ensures c.talks_come_back.ensures c.states_show_their_machines.ensures g image l is d talk planned
