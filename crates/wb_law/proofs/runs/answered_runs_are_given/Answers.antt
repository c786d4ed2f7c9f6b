use Rattle.wb_law.proofs.Replies.{answered_given}
use Rattle.wb_law.proofs.runs.answered_runs_are_given.Goals as goal

pub returns : goal.returns
returns c = answered_given
