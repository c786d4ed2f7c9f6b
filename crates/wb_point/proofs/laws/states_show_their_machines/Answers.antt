use Rattle.wb_point.proofs.Told.{shown_told}
use Rattle.wb_point.proofs.laws.states_show_their_machines.Goals as goal

pub returns : goal.returns
returns c = shown_told
