use Rattle.wb_machine.proofs.Starting.{powers_in_range}
use Rattle.wb_machine.proofs.laws.starts_are_in_range.Goals as goal

pub returns : goal.returns
returns c = powers_in_range
