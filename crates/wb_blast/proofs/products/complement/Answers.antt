use Rattle.std.proofs.Common.{arith}
use Rattle.wb_blast.proofs.Sums.{number_small}
use Rattle.wb_blast.proofs.products.complement.Goals as goal

pub returns-clause-few : goal.returns-clause-few
returns-clause-few c v =
    let small = number_small v c.args.x.now.low (omega arith) in
    let small_high = number_small v c.args.x.now.high (omega arith) in
    omega (arith, small, small_high)

pub returns-clause-value : goal.returns-clause-value
returns-clause-value c v =
    let low = c.inverted-low.ensures.value v in
    let high = c.inverted-high.ensures.value v in
    let small = number_small v c.args.x.now.low (omega arith) in
    let small_high = number_small v c.args.x.now.high (omega arith) in
    omega (arith, low, high, small, small_high)

pub returns-clause-there : goal.returns-clause-there
returns-clause-there c n h = (c.inverted-low.ensures.there n h.0, c.inverted-high.ensures.there n h.1)
