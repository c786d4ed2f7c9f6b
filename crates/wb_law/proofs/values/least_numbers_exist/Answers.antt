use Rattle.wb_law.proofs.Least.{least_numbers_exist}
use Rattle.wb_law.proofs.values.least_numbers_exist.Goals as goal

pub returns : goal.returns
returns c = least_numbers_exist
