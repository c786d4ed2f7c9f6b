use Rattle.wb_syntax.proofs.OneClause.{zero_word}
use Rattle.wb_syntax.proofs.fields.empty_word.Goals as goal

pub returns : goal.returns
returns c = zero_word _
