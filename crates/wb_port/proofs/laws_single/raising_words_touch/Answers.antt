use Rattle.wb_port.proofs.Facts.{raising_touches}
use Rattle.wb_port.proofs.laws_single.raising_words_touch.Goals as goal

pub returns : goal.returns
returns c = raising_touches
