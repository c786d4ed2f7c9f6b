use Rattle.std.proofs.Common.{arith}
use Rattle.wb_vector.proofs.Words.{taken_more}
use Rattle.wb_vector.proofs.known.known_word.Goals as goal

pub loop-at-preserved : goal.loop-at-preserved
loop-at-preserved c =
    let within = c.loop-at-test.true in
    let full = c.told-x in
    record {
      small = c.with_bit-word.ensures.small;
      value = λ v. taken_more v c.args.diagrams.now c.args.x.now c.loop-at.at c.loop-at.word c.with_bit-word.result c.in_ok-bit.bit (omega (arith, within, full))
          (c.loop-at.invariant.value v) (c.in_ok-bit.ensures.some v) c.with_bit-word.ensures.value;
    }
