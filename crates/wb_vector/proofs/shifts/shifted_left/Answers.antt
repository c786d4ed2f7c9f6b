use Rattle.std.proofs.Common.{◌*◌, ◌%◌, ◌^◌, arith}
use Rattle.wb_vector.specs.Vectors.{number}
use Rattle.wb_vector.proofs.Bits.{known_number}
use Rattle.wb_vector.proofs.Moves.{shifted_small}
use Rattle.wb_vector.proofs.shifts.shifted_left.Goals as goal

pub returns : goal.returns
returns c =
    let test = c.loop-at-test.false in
    let is = c.loop-at.invariant in
    record {
      there = is.there;
      value = λ v. known_number v c.args.diagrams.now c.loop-at.done (number v c.args.diagrams.now c.args.x.now * 2 ^ c.args.count % 65536) is.count
          (shifted_small (number v c.args.diagrams.now c.args.x.now) c.args.count) (λ k h. is.value v k (omega (arith, h, test)));
    }
