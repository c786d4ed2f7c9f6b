use Rattle.wb_query.proofs.Bits.{bit_set_word}
use Rattle.wb_query.proofs.filling.word_with.Goals as goal

pub returns : goal.returns
returns c = bit_set_word c.args.word c.args.bit c.requires
