use Rattle.wb_law.proofs.Ends.{last_given}
use Rattle.wb_law.proofs.requests.last_access_is_given_at_a_request.Goals as goal

pub returns : goal.returns
returns c = last_given
