use Rattle.std.proofs.Common.{◌≡◌, subst, arith}
use Rattle.wb_vector.specs.Sums.{Agreeing}
use Rattle.wb_vector.proofs.Carries.{agreeing_more, agreeing_all}
use Rattle.wb_vector.proofs.equality.same_of.Goals as goal

pub loop-at-preserved : goal.loop-at-preserved
loop-at-preserved c = agreeing_more c.args.diagrams.now c.loop-at.diagrams c.agree_within.new.diagrams c.args.x.now c.args.y.now c.loop-at.same
    c.in_ok-so_far.so_far c.loop-at.at c.loop-at-test.true c.told-x c.told-y c.requires.x_there c.requires.y_there c.loop-at.invariant
    c.in_ok-so_far.ensures.grown c.in_ok-so_far.ensures.means

pub returns-clause-means : goal.returns-clause-means
returns-clause-means c =
    let test = c.loop-at-test.false in
    let most = c.loop-at.auto.at-end in
    let end : c.loop-at.at ≡ 16 = omega (arith, test, most) in
    agreeing_all c.args.diagrams.now c.loop-at.diagrams c.args.x.now c.args.y.now c.loop-at.same c.told-x c.told-y
    (subst (λ n. Agreeing c.args.diagrams.now c.loop-at.diagrams c.args.x.now c.args.y.now c.loop-at.same n) end c.loop-at.invariant)
