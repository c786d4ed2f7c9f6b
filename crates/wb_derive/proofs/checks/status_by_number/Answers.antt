use Rattle.std.proofs.Common.{◌≡◌, ◌-◌, ◌∙◌, ap, length}
use Rattle.wb_gate.specs.Circuit.{variables}
use Rattle.wb_gate.specs.Clauses.{clauses_of}
use Rattle.wb_derive.specs.Course.{partial_of, status}
use Rattle.wb_derive.proofs.Numbers.{status_within, step_status, step_within}
use Rattle.wb_derive.proofs.checks.status_by_number.Goals as goal

pub returns-in-Some-clause-within : goal.returns-in-Some-clause-within
returns-in-Some-clause-within c =
    let p = partial_of c.args.marks.now.items c.args.stamp in
    status_within (variables c.args.formula.now) p c.in-Some.clause.items c.status_of.result
    (c.status_of.ensures ∙ ap (status p) c.as_slice.ensures.value) c.in-Some.ensures.below

pub returns-in-None-clause-status : goal.returns-in-None-clause-status
returns-in-None-clause-status c =
    let clauses = clauses_of c.args.formula.now in
    let p = partial_of c.args.marks.now.items c.args.stamp in
    let place : c.args.number - c.clauses.result ≡ c.args.number - length clauses = ap (λ n. c.args.number - n) c.clauses.ensures in
    c.status_of_step.ensures
    ∙ step_status clauses c.args.earlier.now c.args.number (c.args.number - c.clauses.result) p c.in-None.ensures.clause place

pub returns-in-None-clause-within : goal.returns-in-None-clause-within
returns-in-None-clause-within c =
    rw c.status_of_step.ensures
    (step_within (variables c.args.formula.now) c.args.earlier.now (c.args.number - c.clauses.result) (partial_of c.args.marks.now.items c.args.stamp) c.requires)
