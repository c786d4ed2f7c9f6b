use Rattle.std.proofs.Common.{◌≡◌, subst, arith}
use Rattle.wb_vector.specs.Sums.{Subtracted}
use Rattle.wb_vector.proofs.Carries.{subtracted_more, subtracted_difference}
use Rattle.wb_vector.proofs.sums.difference_of.Goals as goal

pub loop-at-preserved : goal.loop-at-preserved
loop-at-preserved c = subtracted_more c.args.diagrams.now c.loop-at.diagrams c.subtract_bits.new.diagrams c.args.x.now c.args.y.now c.args.c c.loop-at.difference
    c.loop-at.borrow c.in_ok-low.low c.in_ok-low.high c.loop-at.at c.loop-at-test.true c.told-x c.told-y c.requires.x_there c.requires.y_there
    c.loop-at.invariant c.in_ok-low.ensures.grown c.in_ok-low.ensures.difference c.in_ok-low.ensures.borrow

pub returns-clause-means : goal.returns-clause-means
returns-clause-means c =
    let test = c.loop-at-test.false in
    let most = c.loop-at.auto.at-end in
    let end : c.loop-at.at ≡ 16 = omega (arith, test, most) in
    subtracted_difference c.args.diagrams.now c.loop-at.diagrams c.args.x.now c.args.y.now c.args.c c.loop-at.difference c.loop-at.borrow c.told-x c.told-y
    (subst (λ n. Subtracted c.args.diagrams.now c.loop-at.diagrams c.args.x.now c.args.y.now c.args.c c.loop-at.difference c.loop-at.borrow n) end c.loop-at.invariant)
