use Rattle.std.proofs.Common.{◌≡◌, subst, arith}
use Rattle.wb_vector.specs.Sums.{Added}
use Rattle.wb_vector.proofs.Carries.{added_more, added_sum}
use Rattle.wb_vector.proofs.sums.sum_of.Goals as goal

pub loop-at-preserved : goal.loop-at-preserved
loop-at-preserved c = added_more c.args.diagrams.now c.loop-at.diagrams c.add_bits.new.diagrams c.args.x.now c.args.y.now c.args.c c.loop-at.sum c.loop-at.carry
    c.in_ok-low.low c.in_ok-low.high c.loop-at.at c.loop-at-test.true c.told-x c.told-y c.requires.x_there c.requires.y_there c.loop-at.invariant
    c.in_ok-low.ensures.grown c.in_ok-low.ensures.sum c.in_ok-low.ensures.carry

pub returns-clause-means : goal.returns-clause-means
returns-clause-means c =
    let test = c.loop-at-test.false in
    let most = c.loop-at.auto.at-end in
    let end : c.loop-at.at ≡ 16 = omega (arith, test, most) in
    added_sum c.args.diagrams.now c.loop-at.diagrams c.args.x.now c.args.y.now c.args.c c.loop-at.sum c.loop-at.carry c.told-x c.told-y
    (subst (λ n. Added c.args.diagrams.now c.loop-at.diagrams c.args.x.now c.args.y.now c.args.c c.loop-at.sum c.loop-at.carry n) end c.loop-at.invariant)
