use Rattle.std.proofs.Common.{◌≡◌, subst, arith, ◌∙◌}
use Rattle.std.proofs.Math.ListN.{length-set}
use Rattle.wb_blast.specs.Words.{Added}
use Rattle.wb_blast.proofs.Sums.{added_more, added_sum, added_carry}
use Rattle.wb_blast.proofs.words.add_words.Goals as goal

pub loop-at-preserved : goal.loop-at-preserved
loop-at-preserved c =
    let is = c.loop-at.invariant in
    let count = is.count in
    let within = c.loop-at-test.true in
    record {
      count = length-set c.loop-at.sum c.loop-at.at c.in_ok-low.low ∙ count;
      added = added_more c.args.formula.now c.loop-at.formula c.add_bits.new.formula c.args.x.now c.args.y.now c.args.c c.loop-at.sum c.loop-at.carry
          c.in_ok-low.low c.in_ok-low.high c.loop-at.at (let t = c.told-x in omega (arith, t, within)) (let t = c.told-y in omega (arith, t, within))
          (omega (arith, count, within)) is.added c.in_ok-low.ensures.extends c.in_ok-low.ensures.means;
    }

pub returns-clause-sum : goal.returns-clause-sum
returns-clause-sum c =
    let test = c.loop-at-test.false in
    let most = c.loop-at.auto.at-end in
    let end : c.loop-at.at ≡ 16 = omega (arith, test, most) in
    let is = c.loop-at.invariant in
    added_sum c.args.formula.now c.loop-at.formula c.args.x.now c.args.y.now c.args.c c.loop-at.sum c.loop-at.carry c.told-x c.told-y is.count
    (subst (λ n. Added c.args.formula.now c.loop-at.formula c.args.x.now c.args.y.now c.args.c c.loop-at.sum c.loop-at.carry n) end is.added)

pub returns-clause-carry : goal.returns-clause-carry
returns-clause-carry c =
    let test = c.loop-at-test.false in
    let most = c.loop-at.auto.at-end in
    let end : c.loop-at.at ≡ 16 = omega (arith, test, most) in
    let is = c.loop-at.invariant in
    added_carry c.args.formula.now c.loop-at.formula c.args.x.now c.args.y.now c.args.c c.loop-at.sum c.loop-at.carry c.told-x c.told-y is.count
    (subst (λ n. Added c.args.formula.now c.loop-at.formula c.args.x.now c.args.y.now c.args.c c.loop-at.sum c.loop-at.carry n) end is.added)
