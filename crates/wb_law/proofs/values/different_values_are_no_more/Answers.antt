use Rattle.wb_law.proofs.Pigeon.{no_more}
use Rattle.wb_law.proofs.values.different_values_are_no_more.Goals as goal

pub returns : goal.returns
returns g c = no_more
