use Rattle.wb_point.proofs.Valued.{values_given}
use Rattle.wb_point.proofs.laws.normalised_inputs_give_the_values.Goals as goal

pub returns : goal.returns
returns c = values_given c.values_agree.ensures
