use Rattle.std.proofs.Common.{arith, ◌∙◌}
use Rattle.std.proofs.Math.ListN.{length-set}
use Rattle.wb_blast.proofs.Moves.{bits_more, number_from_bits, word_small}
use Rattle.wb_blast.proofs.Sums.{below_set}
use Rattle.wb_blast.proofs.inputs.input_word.Goals as goal

pub loop-at-preserved : goal.loop-at-preserved
loop-at-preserved c =
    let is = c.loop-at.invariant in
    let full = is.full in
    let within = c.loop-at-test.true in
    record {
      full = length-set c.loop-at.done c.loop-at.at c.input.result ∙ full;
      there = λ n h. below_set n c.loop-at.done c.loop-at.at c.input.result (omega (arith, full, within)) (is.there n h) (c.input.ensures.there n h);
      value = λ v word small given. bits_more v c.loop-at.done word c.input.result c.loop-at.at (omega (arith, full, within))
          (c.input.ensures.value v word small given) (is.value v word small given);
    }

pub returns-clause-value : goal.returns-clause-value
returns-clause-value c v word small given =
    let test = c.loop-at-test.false in
    let is = c.loop-at.invariant in
    number_from_bits v c.loop-at.done word is.full (word_small word c.args.count c.requires.few small) (λ k h. is.value v word small given k (omega (arith, h, test)))
