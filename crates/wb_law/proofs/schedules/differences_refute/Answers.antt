use Rattle.wb_law.proofs.Eager.{differences_refute}
use Rattle.wb_law.proofs.schedules.differences_refute.Goals as goal

pub returns : goal.returns
returns c = differences_refute
