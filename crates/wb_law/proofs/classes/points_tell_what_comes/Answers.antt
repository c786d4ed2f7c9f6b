use Rattle.wb_law.proofs.Telling.{points_tell_what_comes}
use Rattle.wb_law.proofs.classes.points_tell_what_comes.Goals as goal

pub returns : goal.returns
returns c = points_tell_what_comes
