use Rattle.wb_law.proofs.Ends.{held_stops}
use Rattle.wb_law.proofs.runs.held_runs_stop_before_or_after.Goals as goal

pub returns : goal.returns
returns c = held_stops
