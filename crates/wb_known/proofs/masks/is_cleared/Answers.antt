use Rattle.std.proofs.Common.{◌≡◌, bit_and, arith}
use Rattle.wb_known.proofs.MaskLaws.{clears_apart}
use Rattle.wb_known.proofs.masks.is_cleared.Goals as goal

pub returns : goal.returns
returns c e inputs is =
    let apart : bit_and c.possible_bits.result c.args.mask ≡ 0 = grind arith in
    clears_apart _ _ _ (c.possible_bits.ensures.keeps inputs is) apart
