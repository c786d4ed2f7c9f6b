use Rattle.wb_port.proofs.Facts.{comes_nearer}
use Rattle.wb_port.proofs.laws_single.places_come_nearer.Goals as goal

pub returns : goal.returns
returns c = comes_nearer
