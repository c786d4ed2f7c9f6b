use Rattle.std.proofs.Common.{◌≡◌, arith, subst}
use Rattle.wb_blast.specs.Words.{Differing}
use Rattle.wb_blast.proofs.Sums.{differing_more, differing_all}
use Rattle.wb_blast.proofs.words.same_words.Goals as goal

pub loop-at-preserved : goal.loop-at-preserved
loop-at-preserved c =
    let within = c.loop-at-test.true in
    differing_more c.args.formula.now c.loop-at.formula c.xor.new.formula c.or.new.formula c.args.x.now c.args.y.now c.loop-at.differs c.in_ok-here.here
    c.in_ok-so_far.so_far c.loop-at.at (let t = c.told-x in omega (arith, t, within)) (let t = c.told-y in omega (arith, t, within))
    c.loop-at.invariant c.in_ok-here.ensures.extends c.in_ok-so_far.ensures.extends c.in_ok-here.ensures.means c.in_ok-so_far.ensures.means

pub returns-clause-means : goal.returns-clause-means
returns-clause-means c =
    let test = c.loop-at-test.false in
    let most = c.loop-at.auto.at-end in
    let end : c.loop-at.at ≡ 16 = omega (arith, test, most) in
    differing_all c.args.formula.now c.loop-at.formula c.args.x.now c.args.y.now c.loop-at.differs c.negation.result c.told-x c.told-y
    (subst (λ n. Differing c.args.formula.now c.loop-at.formula c.args.x.now c.args.y.now c.loop-at.differs n) end c.loop-at.invariant)
    c.negation.ensures.value c.negation.ensures.there
