use Rattle.std.proofs.Common.{◌==◌, ap, arith, ◌∙◌, ℕ}
use Rattle.std.proofs.Math.ListN.{length-set}
use Rattle.std.proofs.lemmas.Nat.Bits.{shr_and_one}
use Rattle.wb_blast.proofs.Bits.{known_more, known_number}
use Rattle.wb_blast.proofs.Sums.{below_set}
use Rattle.wb_blast.proofs.bitwise.constant_word.Goals as goal

pub loop-at-preserved : goal.loop-at-preserved
loop-at-preserved c =
    let is = c.loop-at.invariant in
    let count = is.count in
    let within = c.loop-at-test.true in
    record {
      count = length-set c.loop-at.done c.loop-at.at c.constant.result ∙ count;
      there = λ n. below_set n c.loop-at.done c.loop-at.at c.constant.result (omega (arith, count, within)) (is.there n) (c.constant.ensures.there n);
      value = λ v. known_more v c.loop-at.done c.args.word c.constant.result c.loop-at.at (omega (arith, count, within))
          (c.constant.ensures.value v ∙ ap (λ (b : ℕ). b == 1) (shr_and_one c.args.word c.loop-at.at)) (is.value v);
    }

pub returns-clause-value : goal.returns-clause-value
returns-clause-value c v =
    let test = c.loop-at-test.false in
    let is = c.loop-at.invariant in
    known_number v c.loop-at.done c.args.word is.count (let fits = c.ranges.word in omega (arith, fits)) (λ k h. is.value v k (omega (arith, h, test)))
