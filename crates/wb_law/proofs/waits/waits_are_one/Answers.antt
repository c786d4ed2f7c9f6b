use Rattle.wb_law.proofs.Waiting.{waits_are_one}
use Rattle.wb_law.proofs.waits.waits_are_one.Goals as goal

pub returns : goal.returns
returns c = waits_are_one
