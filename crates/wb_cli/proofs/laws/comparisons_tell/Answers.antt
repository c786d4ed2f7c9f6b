use Rattle.wb_cli.proofs.Telling.{tell}
use Rattle.wb_cli.proofs.laws.comparisons_tell.Goals as goal

pub returns : goal.returns
returns c = tell
