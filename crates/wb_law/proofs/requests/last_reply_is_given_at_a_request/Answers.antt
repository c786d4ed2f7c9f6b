use Rattle.wb_law.proofs.Replies.{last_reply_given}
use Rattle.wb_law.proofs.requests.last_reply_is_given_at_a_request.Goals as goal

pub returns : goal.returns
returns c = last_reply_given
