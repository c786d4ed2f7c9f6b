use Rattle.wb_explore.proofs.Standing.{layer_grown}
use Rattle.wb_explore.proofs.laws.layers_stay.Goals as goal

pub returns : goal.returns
returns c g h grown image l x = layer_grown c.states_stay.ensures g h grown image l x
