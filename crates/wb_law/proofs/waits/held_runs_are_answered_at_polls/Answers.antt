use Rattle.wb_law.proofs.Waiting.{held_runs_are_answered_at_polls}
use Rattle.wb_law.proofs.waits.held_runs_are_answered_at_polls.Goals as goal

pub returns : goal.returns
returns c = held_runs_are_answered_at_polls
