use Rattle.std.proofs.Common.{arith}
use Rattle.wb_vector.proofs.Bits.{known_number}
use Rattle.wb_vector.proofs.bitwise.constant_word.Goals as goal

pub returns : goal.returns
returns c =
    let test = c.loop-at-test.false in
    let is = c.loop-at.invariant in
    let fits = c.ranges.word in
    record {
      there = is.there;
      value = λ v. known_number v c.args.diagrams.now c.loop-at.done c.args.word is.count (omega (arith, fits)) (λ k h. is.value v k (omega (arith, h, test)));
    }
