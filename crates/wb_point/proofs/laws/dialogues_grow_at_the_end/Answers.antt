use Rattle.wb_point.proofs.Transfers.{under-after}
use Rattle.wb_point.proofs.laws.dialogues_grow_at_the_end.Goals as goal

pub returns : goal.returns
returns c = under-after
