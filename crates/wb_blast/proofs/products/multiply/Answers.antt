use Rattle.std.proofs.Common.{◌≡◌, arith, subst}
use Rattle.wb_blast.specs.Doubles.{Multiplied}
use Rattle.wb_blast.proofs.Factors.{multiplied_none, multiplied_more, multiplied_all}
use Rattle.wb_blast.proofs.products.multiply.Goals as goal

pub loop-at-init : goal.loop-at-init
loop-at-init c = multiplied_none c.args.formula.now c.args.x.now c.args.y.now c.zero-sum.result c.extend.result c.twice-row.result
    (c.zero-sum.ensures.there _) (c.twice-row.ensures.there _ (c.extend.ensures.there _ c.requires.x_there))
    c.zero-sum.ensures.value c.extend.ensures.value c.twice-row.ensures.value

pub loop-at-preserved : goal.loop-at-preserved
loop-at-preserved c =
    let within = c.loop-at-test.true in
    let is = c.loop-at.invariant in
    multiplied_more c.args.formula.now c.loop-at.formula c.add_row.new.formula c.args.x.now c.args.y.now c.loop-at.sum c.loop-at.row c.in_ok-more.more
    c.twice-row-in-loop-at.result c.loop-at.at (omega (arith, within)) is c.in_ok-more.ensures.extends c.in_ok-more.ensures.means
    (c.twice-row-in-loop-at.ensures.there _ is.row_there) c.twice-row-in-loop-at.ensures.value

pub returns-clause-means : goal.returns-clause-means
returns-clause-means c =
    let test = c.loop-at-test.false in
    let most = c.loop-at.auto.at-end in
    let end : c.loop-at.at ≡ 15 = omega (arith, test, most) in
    let last = c.in_ok-product.ensures in
    multiplied_all c.args.formula.now c.loop-at.formula c.subtract_row.new.formula c.args.x.now c.args.y.now c.loop-at.sum c.loop-at.row c.in_ok-product.product
    (omega arith) (omega arith)
    (subst (λ n. Multiplied c.args.formula.now c.loop-at.formula c.args.x.now c.args.y.now c.loop-at.sum c.loop-at.row n) end c.loop-at.invariant)
    last.extends last.means
