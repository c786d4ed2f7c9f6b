use Rattle.wb_query.proofs.Bits.{bit_set_byte}
use Rattle.wb_query.proofs.filling.byte_with.Goals as goal

pub returns : goal.returns
returns c = bit_set_byte c.args.byte c.args.bit c.requires
