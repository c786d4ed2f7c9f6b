use Rattle.wb_law.proofs.Ends.{one_request}
use Rattle.wb_law.proofs.requests.requests_are_one.Goals as goal

pub returns : goal.returns
returns c = one_request
