use Rattle.wb_port.proofs.Facts.{calm_keeps}
use Rattle.wb_port.proofs.laws_single.calm_words_keep_the_port.Goals as goal

pub returns : goal.returns
returns c = calm_keeps
