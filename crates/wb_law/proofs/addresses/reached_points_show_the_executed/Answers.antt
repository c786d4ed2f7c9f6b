use Rattle.wb_law.proofs.Executing.{reached_points_show_the_executed}
use Rattle.wb_law.proofs.addresses.reached_points_show_the_executed.Goals as goal

pub returns : goal.returns
returns c = reached_points_show_the_executed c.fronts_fit.ensures c.status_reads_always_fit.ensures
