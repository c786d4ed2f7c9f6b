use Rattle.wb_replies.proofs.Shown.{differences_are_of_replies}
use Rattle.wb_replies.proofs.laws.differences_are_of_replies.Goals as goal

pub returns : goal.returns
returns c = differences_are_of_replies
