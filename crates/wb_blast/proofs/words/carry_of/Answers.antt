use Rattle.std.proofs.Common.{arith}
use Rattle.wb_blast.proofs.Sums.{carried_more}
use Rattle.wb_blast.proofs.words.carry_of.Goals as goal

pub loop-at-preserved : goal.loop-at-preserved
loop-at-preserved c =
    let within = c.loop-at-test.true in
    carried_more c.args.formula.now c.loop-at.formula c.majority.new.formula c.args.x.now c.args.y.now c.args.c c.loop-at.carry c.in_ok-next.next c.loop-at.at
    (let t = c.told-x in omega (arith, t, within)) (let t = c.told-y in omega (arith, t, within))
    c.loop-at.invariant c.in_ok-next.ensures.extends c.in_ok-next.ensures.means
