use Rattle.std.proofs.Common.{arith}
use Rattle.wb_blast.proofs.Bits.{number_bit}
use Rattle.wb_blast.proofs.Sums.{below_set}
use Rattle.wb_blast.proofs.Doubled.{number_replaced}
use Rattle.wb_blast.proofs.products.shifted_in.Goals as goal

pub returns-clause-value : goal.returns-clause-value
returns-clause-value c v =
    let full = c.shifted_left-shifted.type_inv in
    let twice = c.shifted_left-shifted.ensures.value v in
    let replaced = number_replaced v c.shifted_left-shifted.result c.args.low (omega (arith, full)) in
    let lowest = number_bit v c.shifted_left-shifted.result 0 (omega (arith, full)) in
    omega (arith, twice, replaced, lowest)

pub returns-clause-there : goal.returns-clause-there
returns-clause-there c n h one =
    let full = c.shifted_left-shifted.type_inv in
    below_set n c.shifted_left-shifted.result 0 c.args.low (omega (arith, full)) (c.shifted_left-shifted.ensures.there n h) one
