use Rattle.wb_law.proofs.Ends.{shorter_stops}
use Rattle.wb_law.proofs.runs.shorter_runs_stop_too.Goals as goal

pub returns : goal.returns
returns c = shorter_stops
