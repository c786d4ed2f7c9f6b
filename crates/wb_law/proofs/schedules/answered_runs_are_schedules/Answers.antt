use Rattle.wb_law.proofs.Eager.{eager}
use Rattle.wb_law.proofs.schedules.answered_runs_are_schedules.Goals as goal

pub returns : goal.returns
returns c = eager
