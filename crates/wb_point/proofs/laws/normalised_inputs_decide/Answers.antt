use Rattle.wb_point.proofs.Decided.{decided}
use Rattle.wb_point.proofs.laws.normalised_inputs_decide.Goals as goal

pub returns : goal.returns
returns c = decided
