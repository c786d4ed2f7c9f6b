use Rattle.wb_term.proofs.Agree.{values-agree}
use Rattle.wb_term.proofs.laws.values_agree.Goals as goal

pub returns : goal.returns
returns c = values-agree
