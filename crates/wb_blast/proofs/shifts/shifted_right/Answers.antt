use Rattle.std.proofs.Common.{◌/◌, ◌^◌, arith, ◌∙◌}
use Rattle.std.proofs.Math.ListN.{length-set}
use Rattle.wb_blast.specs.Words.{number}
use Rattle.wb_blast.proofs.Moves.{bits_more, number_from_bits, halves_small}
use Rattle.wb_blast.proofs.Sums.{below_set}
use Rattle.wb_blast.proofs.shifts.shifted_right.Goals as goal

pub loop-at-preserved : goal.loop-at-preserved
loop-at-preserved c =
    let is = c.loop-at.invariant in
    let full = is.full in
    let within = c.loop-at-test.true in
    record {
      full = length-set c.loop-at.done c.loop-at.at c.from_above.result ∙ full;
      there = λ n h. below_set n c.loop-at.done c.loop-at.at c.from_above.result (omega (arith, full, within)) (is.there n h) (c.from_above.ensures.there n h);
      value = λ v. bits_more v c.loop-at.done (number v c.args.x.now / 2 ^ c.args.count) c.from_above.result c.loop-at.at (omega (arith, full, within))
          (c.from_above.ensures.value v) (is.value v);
    }

pub returns-clause-value : goal.returns-clause-value
returns-clause-value c v =
    let test = c.loop-at-test.false in
    let is = c.loop-at.invariant in
    number_from_bits v c.loop-at.done (number v c.args.x.now / 2 ^ c.args.count) is.full (halves_small v c.args.x.now c.args.count c.told-x) (λ k h. is.value v k (omega (arith, h, test)))
