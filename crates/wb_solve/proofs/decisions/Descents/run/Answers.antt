use Rattle.std.proofs.Common.{length, refl, subst}
use Rattle.wb_solve.specs.Search.{clauses_in}
use Rattle.wb_solve.specs.declared.decisions.Descents.{Descents}
use Rattle.wb_solve.specs.Propagating.{IsPassed}
use Rattle.wb_solve.proofs.Halts.{conflict_halted, passed_ready, passed_none, rests_halted}
use Rattle.wb_solve.proofs.decisions.Descents.run.Goals as goal

pub returns-in-Some : goal.returns-in-Some
returns-in-Some c =
    let f = c.args.formula.now in
    let steps = clauses_in c.args.steps.now in
    let old = c.loop-number.self in
    let new : Descents = record { propagation = c.propagate.new.self; marks = old.marks; hints = old.hints; assumed = old.assumed; next = old.next } in
    let passed = subst (IsPassed f steps new.propagation (length new.propagation.trail.entries)) c.in-Some.is c.in_ok-number.ensures.passed in
    conflict_halted f steps c.loop-number.next old new c.in-Some.number c.loop-number.invariant passed c.in_ok-number.ensures.grows refl refl

pub first_open-requires : goal.first_open-requires
first_open-requires c =
    let f = c.args.formula.now in
    let steps = clauses_in c.args.steps.now in
    let old = c.loop-number.self in
    let new : Descents = record { propagation = c.propagate.new.self; marks = old.marks; hints = old.hints; assumed = old.assumed; next = old.next } in
    let passed = passed_none f steps new (length new.propagation.trail.entries) c.in_ok-number.field-0 c.in_default.not-Some c.in_ok-number.ensures.passed in
    (passed_ready f steps c.loop-number.next old new c.loop-number.invariant passed c.in_ok-number.ensures.grows refl refl refl).valued

pub returns-in-None : goal.returns-in-None
returns-in-None c =
    let f = c.args.formula.now in
    let steps = clauses_in c.args.steps.now in
    let old = c.loop-number.self in
    let new : Descents = record { propagation = c.propagate.new.self; marks = old.marks; hints = old.hints; assumed = old.assumed; next = old.next } in
    let passed = passed_none f steps new (length new.propagation.trail.entries) c.in_ok-number.field-0 c.in_default.not-Some c.in_ok-number.ensures.passed in
    let ready = passed_ready f steps c.loop-number.next old new c.loop-number.invariant passed c.in_ok-number.ensures.grows refl refl refl in
    rests_halted f steps new ready c.in-None.ensures

pub assume-requires-clause-ready : goal.assume-requires-clause-ready
assume-requires-clause-ready c =
    let f = c.args.formula.now in
    let steps = clauses_in c.args.steps.now in
    let old = c.loop-number.self in
    let new : Descents = record { propagation = c.propagate.new.self; marks = old.marks; hints = old.hints; assumed = old.assumed; next = old.next } in
    let passed = passed_none f steps new (length new.propagation.trail.entries) c.in_ok-number.field-0 c.in_default.not-Some c.in_ok-number.ensures.passed in
    passed_ready f steps c.loop-number.next old new c.loop-number.invariant passed c.in_ok-number.ensures.grows refl refl refl
