use Rattle.std.proofs.Common.{◌≡◌, bit_and, arith}
use Rattle.wb_known.proofs.MaskLaws.{keeps_more}
use Rattle.wb_known.proofs.masks.is_kept.Goals as goal

pub returns : goal.returns
returns c e inputs is =
    let within : bit_and c.possible_bits-bits.result c.args.mask ≡ c.possible_bits-bits.result = grind arith in
    keeps_more _ _ _ (c.possible_bits-bits.ensures.keeps inputs is) within
