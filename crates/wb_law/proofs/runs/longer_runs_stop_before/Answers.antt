use Rattle.wb_law.proofs.Ends.{longer_stops}
use Rattle.wb_law.proofs.runs.longer_runs_stop_before.Goals as goal

pub returns : goal.returns
returns c = longer_stops
