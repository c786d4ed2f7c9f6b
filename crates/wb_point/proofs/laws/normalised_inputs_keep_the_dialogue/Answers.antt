use Rattle.wb_point.proofs.Normal.{normal}
use Rattle.wb_point.proofs.laws.normalised_inputs_keep_the_dialogue.Goals as goal

pub returns : goal.returns
returns c = normal
