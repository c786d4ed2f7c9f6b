use Rattle.wb_point.proofs.Normal.{of_kinds}
use Rattle.wb_point.proofs.laws.dialogues_are_of_their_kinds.Goals as goal

pub returns : goal.returns
returns c = of_kinds
