use Rattle.std.proofs.Common.{◌≡◌, subst, arith}
use Rattle.wb_vector.specs.Sums.{Borrowed}
use Rattle.wb_vector.proofs.Carries.{borrowed_more, borrowed_all}
use Rattle.wb_vector.proofs.sums.borrow_of.Goals as goal

pub loop-at-preserved : goal.loop-at-preserved
loop-at-preserved c = borrowed_more c.args.diagrams.now c.loop-at.diagrams c.borrow_bits.new.diagrams c.args.x.now c.args.y.now c.args.c c.loop-at.borrow
    c.in_ok-next.next c.loop-at.at c.loop-at-test.true c.told-x c.told-y c.requires.x_there c.requires.y_there c.loop-at.invariant
    c.in_ok-next.ensures.grown c.in_ok-next.ensures.means

pub returns-clause-means : goal.returns-clause-means
returns-clause-means c =
    let test = c.loop-at-test.false in
    let most = c.loop-at.auto.at-end in
    let end : c.loop-at.at ≡ 16 = omega (arith, test, most) in
    borrowed_all c.args.diagrams.now c.loop-at.diagrams c.args.x.now c.args.y.now c.args.c c.loop-at.borrow c.told-x c.told-y
    (subst (λ n. Borrowed c.args.diagrams.now c.loop-at.diagrams c.args.x.now c.args.y.now c.args.c c.loop-at.borrow n) end c.loop-at.invariant)
