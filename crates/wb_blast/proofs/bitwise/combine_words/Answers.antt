use Rattle.std.proofs.Common.{◌≡◌, subst, arith, ◌∙◌}
use Rattle.std.proofs.Math.ListN.{length-set}
use Rattle.wb_blast.specs.Operations.{Combined}
use Rattle.wb_blast.proofs.Bits.{combined_more, combined_number}
use Rattle.wb_blast.proofs.bitwise.combine_words.Goals as goal

pub loop-at-preserved : goal.loop-at-preserved
loop-at-preserved c =
    let is = c.loop-at.invariant in
    let count = is.count in
    let within = c.loop-at-test.true in
    record {
      count = length-set c.loop-at.done c.loop-at.at c.in_ok-entry.entry ∙ count;
      combined = combined_more c.args.formula.now c.loop-at.formula c.combine.new.formula c.args.operation c.args.x.now c.args.y.now c.loop-at.done
          c.in_ok-entry.entry c.loop-at.at (omega (arith, count, within)) is.combined c.in_ok-entry.ensures.extends c.in_ok-entry.ensures.means;
    }

pub returns-clause-means : goal.returns-clause-means
returns-clause-means c =
    let test = c.loop-at-test.false in
    let most = c.loop-at.auto.at-end in
    let end : c.loop-at.at ≡ 16 = omega (arith, test, most) in
    let is = c.loop-at.invariant in
    let whole = subst (λ n. Combined c.args.formula.now c.loop-at.formula c.args.operation c.args.x.now c.args.y.now c.loop-at.done n) end is.combined in
    record {
      there = whole.there;
      value = λ v o. combined_number v c.args.operation c.args.x.now c.args.y.now c.loop-at.done c.told-x c.told-y is.count (whole.value v o);
    }
