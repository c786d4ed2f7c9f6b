use Rattle.wb_port.proofs.Facts.{status_changes_nothing}
use Rattle.wb_port.proofs.laws_single.status_reads_change_nothing.Goals as goal

pub returns : goal.returns
returns c = status_changes_nothing
