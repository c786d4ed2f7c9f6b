use Rattle.wb_replies.proofs.Shown.{differences_are_shown}
use Rattle.wb_replies.proofs.laws.differences_are_shown.Goals as goal

pub returns : goal.returns
returns c = differences_are_shown c.answered_runs_are_given.ensures c.last_reply_is_given_at_a_request.ensures
