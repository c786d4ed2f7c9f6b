use Rattle.wb_port.proofs.Facts.{only_raised}
use Rattle.wb_port.proofs.laws_single.only_raising_words_request.Goals as goal

pub returns : goal.returns
returns c = only_raised
