use Rattle.wb_port.proofs.Facts.{calm_commutes}
use Rattle.wb_port.proofs.laws_single.calm_words_commute.Goals as goal

pub returns : goal.returns
returns c = calm_commutes
