use Rattle.std.proofs.Common.{◌≡◌, bit_and, arith}
use Rattle.wb_known.proofs.MaskLaws.{words_apart}
use Rattle.wb_known.proofs.masks.are_apart.Goals as goal

pub returns : goal.returns
returns c e inputs is =
    let apart : bit_and c.possible_bits.result c.possible_bits-2.result ≡ 0 = grind arith in
    words_apart _ _ _ _ (c.possible_bits.ensures.keeps inputs is) (c.possible_bits-2.ensures.keeps inputs is) apart
