use Rattle.std.proofs.Common.{arith, ◌∙◌}
use Rattle.std.proofs.Math.ListN.{length-set}
use Rattle.wb_blast.proofs.Bits.{inverted_more, inverted_number}
use Rattle.wb_blast.proofs.Sums.{below_set}
use Rattle.wb_blast.proofs.bitwise.inverted.Goals as goal

pub loop-at-preserved : goal.loop-at-preserved
loop-at-preserved c =
    let is = c.loop-at.invariant in
    let count = is.count in
    let within = c.loop-at-test.true in
    record {
      count = length-set c.loop-at.done c.loop-at.at c.negation.result ∙ count;
      there = λ n h. below_set n c.loop-at.done c.loop-at.at c.negation.result (omega (arith, count, within)) (is.there n h)
          (c.negation.ensures.there n (h c.loop-at.at));
      value = λ v. inverted_more v c.args.x.now c.loop-at.done c.negation.result c.loop-at.at (omega (arith, count, within)) (c.negation.ensures.value v) (is.value v);
    }

pub returns-clause-value : goal.returns-clause-value
returns-clause-value c v =
    let test = c.loop-at-test.false in
    let is = c.loop-at.invariant in
    inverted_number v c.args.x.now c.loop-at.done c.told-x is.count (λ k h. is.value v k (omega (arith, h, test)))
