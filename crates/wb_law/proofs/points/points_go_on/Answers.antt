use Rattle.wb_law.proofs.GoingOn.{points_go_on}
use Rattle.wb_law.proofs.points.points_go_on.Goals as goal

pub returns : goal.returns
returns c = points_go_on
