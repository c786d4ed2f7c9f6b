use Rattle.std.proofs.Common.{arith}
use Rattle.wb_blast.proofs.Bits.{number_bit}
use Rattle.wb_blast.proofs.Sums.{number_small}
use Rattle.wb_blast.proofs.products.twice.Goals as goal

pub returns-clause-value : goal.returns-clause-value
returns-clause-value c v =
    let low = c.shifted_in-low.ensures.value v in
    let high = c.shifted_in-high.ensures.value v in
    let small = number_small v c.args.x.now.low (omega arith) in
    let small_high = number_small v c.args.x.now.high (omega arith) in
    let carry = number_bit v c.args.x.now.low 15 (omega arith) in
    omega (arith, low, high, small, small_high, carry)

pub returns-clause-there : goal.returns-clause-there
returns-clause-there c n h = (c.shifted_in-low.ensures.there n h.0 tt, c.shifted_in-high.ensures.there n h.1 (h.0 15))
