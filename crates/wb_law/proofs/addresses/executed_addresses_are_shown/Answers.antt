use Rattle.wb_law.proofs.Executing.{executed_addresses_are_shown}
use Rattle.wb_law.proofs.addresses.executed_addresses_are_shown.Goals as goal

pub returns : goal.returns
returns c = executed_addresses_are_shown
