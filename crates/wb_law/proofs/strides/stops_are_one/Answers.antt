use Rattle.wb_law.proofs.Striding.{stops_are_one}
use Rattle.wb_law.proofs.strides.stops_are_one.Goals as goal

pub returns : goal.returns
returns c = stops_are_one
