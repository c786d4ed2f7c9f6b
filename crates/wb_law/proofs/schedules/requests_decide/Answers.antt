use Rattle.wb_law.proofs.Replies.{requests_decide}
use Rattle.wb_law.proofs.schedules.requests_decide.Goals as goal

pub returns : goal.returns
returns c = requests_decide
