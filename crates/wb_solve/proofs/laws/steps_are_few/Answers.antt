use Rattle.wb_solve.proofs.Few.{steps_are_few}
use Rattle.wb_solve.proofs.laws.steps_are_few.Goals as goal

pub returns : goal.returns
returns c = steps_are_few
