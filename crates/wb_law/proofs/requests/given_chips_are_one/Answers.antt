use Rattle.wb_law.proofs.Ends.{one_given}
use Rattle.wb_law.proofs.requests.given_chips_are_one.Goals as goal

pub returns : goal.returns
returns c = one_given
