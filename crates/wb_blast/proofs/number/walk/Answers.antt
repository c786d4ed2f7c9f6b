use Rattle.std.proofs.Common.{◌≡◌, ◌-◌, arith, subst}
use Rattle.wb_blast.specs.Walk.{Walked}
use Rattle.wb_blast.proofs.Walk.{walked_none, walked_more, walked_all}
use Rattle.wb_blast.proofs.number.walk.Goals as goal

pub loop-at-init : goal.loop-at-init
loop-at-init c = record {
  within = omega arith;
  walked = walked_none c.args.graph.now c.args.bits.now c.args.scratch.now c.args.end c.requires.begins;
}

pub loop-at-preserved : goal.loop-at-preserved
loop-at-preserved c =
    let some = c.loop-at-test.true in
    let within = c.loop-at.invariant.within in
    record {
      within = omega (arith, within);
      walked = walked_more c.args.graph.now c.args.bits.now c.args.scratch.now c.loop-at.scratch c.visit-total.new.scratch c.args.end
          c.loop-at.at (c.loop-at.at - 1) c.loop-at.total c.visit-total.result (omega (arith, some)) (omega (arith, some, within))
          c.visit-total.ensures.few c.visit-total.ensures.visits c.loop-at.invariant.walked;
    }

pub returns-clause-number : goal.returns-clause-number
returns-clause-number c =
    let zero : c.loop-at.at ≡ 0 = (let none = c.loop-at-test.false in omega (arith, none)) in
    let w = c.loop-at.invariant.walked in
    walked_all c.args.graph.now c.args.bits.now c.args.scratch.now c.loop-at.scratch c.args.end c.loop-at.total c.requires.bits
    (subst (λ at. Walked c.args.graph.now c.args.bits.now c.args.scratch.now c.loop-at.scratch c.args.end at c.loop-at.total) zero w)

pub returns-clause-few : goal.returns-clause-few
returns-clause-few c =
    let few = c.loop-at.invariant.walked.few in
    let nodes = c.requires.there in
    let end = c.requires.end_few in
    omega (arith, few, nodes, end)
