use Rattle.std.proofs.Common.{length, ◌≡◌, ◌≤◌, arith}
use Rattle.wb_vector.proofs.Bits.{named_number}
use Rattle.wb_vector.proofs.bitwise.variables.Goals as goal

pub returns-clause-means : goal.returns-clause-means
returns-clause-means c =
    let test = c.loop-at-test.false in
    let most = c.loop-at.auto.at-end in
    let is = c.loop-at.invariant in
    let count = is.count in
    let few = c.requires.few in
    let end : c.loop-at.at ≡ length c.args.names.now = omega (arith, test, most) in
    let inside : c.loop-at.at ≤ length c.loop-at.done = omega (arith, end, few, count) in
    record {
      there = is.there;
      value = λ v. named_number v c.loop-at.diagrams c.loop-at.done c.args.names.now c.loop-at.at end inside (λ k h. is.value v k (omega (arith, h, count)));
    }
