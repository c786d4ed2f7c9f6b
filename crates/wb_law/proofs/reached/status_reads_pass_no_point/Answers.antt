use Rattle.wb_law.proofs.StatusReads.{status_reads_pass_no_point}
use Rattle.wb_law.proofs.reached.status_reads_pass_no_point.Goals as goal

pub returns : goal.returns
returns c = status_reads_pass_no_point
