use Rattle.std.proofs.Common.{arith}
use Rattle.wb_vector.proofs.Bits.{operation_kept, combined_more, combined_number}
use Rattle.wb_vector.proofs.bitwise.combine_words.Goals as goal

pub combine-requires-clause-operation_there : goal.combine-requires-clause-operation_there
combine-requires-clause-operation_there c =
    operation_kept c.args.diagrams.now c.loop-at.diagrams c.args.operation c.loop-at.invariant.grown c.requires.operation_there

pub loop-at-preserved : goal.loop-at-preserved
loop-at-preserved c = combined_more c.args.diagrams.now c.loop-at.diagrams c.combine.new.diagrams c.args.operation c.args.x.now c.args.y.now c.loop-at.done
    c.in_ok-combined.combined c.loop-at.at c.loop-at-test.true c.requires.operation_there c.requires.x_there c.requires.y_there c.loop-at.invariant
    c.in_ok-combined.ensures.grown c.in_ok-combined.ensures.means

pub returns-clause-means : goal.returns-clause-means
returns-clause-means c =
    let test = c.loop-at-test.false in
    let is = c.loop-at.invariant in
    record {
      there = is.there;
      value = λ v. combined_number v c.args.diagrams.now c.loop-at.diagrams c.args.operation c.args.x.now c.args.y.now c.loop-at.done c.told-x c.told-y is.count
          (λ k h. is.value v k (omega (arith, h, test)));
    }
