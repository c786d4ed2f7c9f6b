use Rattle.wb_port.proofs.Facts.{raised_stands}
use Rattle.wb_port.proofs.laws_single.raising_words_request.Goals as goal

pub returns : goal.returns
returns c = raised_stands
