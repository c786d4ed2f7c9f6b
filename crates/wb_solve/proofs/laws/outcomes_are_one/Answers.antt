use Rattle.wb_solve.proofs.Outcomes.{outcomes_are_one}
use Rattle.wb_solve.proofs.laws.outcomes_are_one.Goals as goal

pub returns : goal.returns
returns c = outcomes_are_one
