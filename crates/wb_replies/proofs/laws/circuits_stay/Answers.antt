use Rattle.wb_replies.proofs.Kept.{kept}
use Rattle.wb_replies.proofs.laws.circuits_stay.Goals as goal

pub returns : goal.returns
returns c = kept
