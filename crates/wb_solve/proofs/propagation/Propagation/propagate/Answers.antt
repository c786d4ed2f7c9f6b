use Rattle.std.proofs.Common.{arith}
use Rattle.wb_solve.specs.Search.{clauses_in}
use Rattle.wb_solve.proofs.Growing.{grows_trans, grows_longer, done_whole, done_next}
use Rattle.wb_solve.proofs.propagation.Propagation.propagate.Goals as goal

pub returns-in-Some-clause-grows : goal.returns-in-Some-clause-grows
returns-in-Some-clause-grows c =
    grows_trans c.args.self.now.trail.entries c.loop-next.self.trail.entries c.visit_all.new.self.trail.entries c.loop-next.invariant.grows c.in_ok-number.ensures.grows

pub loop-next-preserved : goal.loop-next-preserved
loop-next-preserved c =
    let f = c.args.formula.now in
    let steps = clauses_in c.args.steps.now in
    let s = c.loop-next.self in
    let t = c.visit_all.new.self in
    let longer = grows_longer s.trail.entries t.trail.entries c.in_ok-number.ensures.grows in
    record {
      done = done_next f steps t c.loop-next.next c.in_ok-number.field-0 c.in_default.not-Some c.in_ok-number.ensures.passed;
      within = omega (arith, longer, c.loop-next-test.true, c.len.ensures.length);
      grows = grows_trans c.args.self.now.trail.entries s.trail.entries t.trail.entries c.loop-next.invariant.grows c.in_ok-number.ensures.grows;
    }

pub returns-clause-passed : goal.returns-clause-passed
returns-clause-passed c =
    done_whole c.args.formula.now (clauses_in c.args.steps.now) c.loop-next.self c.loop-next.next c.loop-next.invariant.done (omega (arith, c.loop-next-test.false, c.len.ensures.length, c.loop-next.invariant.within))
