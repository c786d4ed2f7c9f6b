use Rattle.std.proofs.Common.{arith}
use Rattle.wb_vector.proofs.Bits.{inverted_more, inverted_number}
use Rattle.wb_vector.proofs.bitwise.inverted.Goals as goal

pub loop-at-preserved : goal.loop-at-preserved
loop-at-preserved c = inverted_more c.args.diagrams.now c.loop-at.diagrams c.not.new.self c.args.x.now c.loop-at.done c.in_ok-opposite.opposite c.loop-at.at
    c.loop-at-test.true c.requires c.loop-at.invariant c.in_ok-opposite.ensures.grown c.in_ok-opposite.ensures.value

pub returns-clause-means : goal.returns-clause-means
returns-clause-means c =
    let test = c.loop-at-test.false in
    let is = c.loop-at.invariant in
    record {
      there = is.there;
      value = λ v. inverted_number v c.args.diagrams.now c.loop-at.diagrams c.args.x.now c.loop-at.done c.told-x is.count (λ k h. is.value v k (omega (arith, h, test)));
    }
