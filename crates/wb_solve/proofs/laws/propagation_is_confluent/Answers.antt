use Rattle.wb_solve.proofs.Confluence.{propagation_is_confluent}
use Rattle.wb_solve.proofs.laws.propagation_is_confluent.Goals as goal

pub returns : goal.returns
returns c = propagation_is_confluent
