use Rattle.wb_cli.proofs.Counting.{counts_stay}
use Rattle.wb_cli.proofs.laws.counts_tell_faults.Goals as goal

pub returns : goal.returns
returns c = counts_stay
