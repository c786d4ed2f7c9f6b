use Rattle.wb_law.proofs.Executing.{shown_addresses_are_executed}
use Rattle.wb_law.proofs.addresses.shown_addresses_are_executed.Goals as goal

pub returns : goal.returns
returns c = shown_addresses_are_executed
