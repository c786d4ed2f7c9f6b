use Rattle.wb_law.proofs.Ends.{stripped_stops}
use Rattle.wb_law.proofs.runs.status_reads_stop_nothing.Goals as goal

pub returns : goal.returns
returns c = stripped_stops
