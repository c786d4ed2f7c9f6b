use Rattle.wb_symstep.proofs.States.{states_stay}
use Rattle.wb_symstep.proofs.laws.states_stay.Goals as goal

pub returns : goal.returns
returns c = states_stay
