-- Points go on by themselves and by what the machine shows.
use Rattle.std.proofs.Common.{refl}
use Rattle.wb_port.specs.Monitor.{is_idle, is_leaving, observed, stepped}
use Rattle.wb_law.specs.Points.{PointsGoOn}

pub points_go_on : PointsGoOn
unfolding stepped observed is_idle is_leaving
points_go_on image s kinds c = record { step = refl; read = refl; write = λ byte. refl; status = refl }
