use Rattle.wb_trace.proofs.Undoing.{undos_give_back}
use Rattle.wb_trace.proofs.laws.undos_give_back.Goals as goal

pub returns : goal.returns
returns c = undos_give_back
