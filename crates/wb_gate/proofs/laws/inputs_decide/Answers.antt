use Rattle.wb_gate.proofs.Decided.{inputs_decide}
use Rattle.wb_gate.proofs.laws.inputs_decide.Goals as goal

pub returns : goal.returns
returns c = inputs_decide
