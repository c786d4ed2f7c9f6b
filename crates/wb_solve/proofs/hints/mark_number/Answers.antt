use Rattle.std.proofs.Common.{◌≡◌, ◌<◌, ◌≤◌, ◌+◌, ◌-◌, length, Some, ◌∙◌, sym, ap, subst, arith}
use Rattle.std.specs.List.{slice_get}
use Rattle.std.proofs.lemmas.Option.{slice_get-get_or}
use Rattle.wb_gate.specs.Clauses.{clauses_of, IsClauseAt}
use Rattle.wb_derive.specs.declared.steps.Step.{Step}
use Rattle.wb_solve.specs.Course.{known_to}
use Rattle.wb_solve.specs.Trails.{marked, MarksAll}
use Rattle.wb_solve.proofs.Findings.{clause_in, known_in_formula, known_in_steps, length_known, same_clause}
use Rattle.wb_solve.proofs.hints.mark_number.Goals as goal

pub mark_clause-requires-in-None : goal.mark_clause-requires-in-None
mark_clause-requires-in-None c =
    let f = c.args.formula.now in
    let steps = c.args.steps.now in
    let place = c.args.number - c.clauses.result in
    let step = c.index-steps-place.result in
    let whole = length_known f steps in
    let past : length (clauses_of f) ≤ c.args.number = subst (IsClauseAt (clauses_of f) c.args.number) c.in-None.is c.clause_at-found.ensures.clause in
    let inside : place < length steps = omega (arith, whole, c.requires.number, c.clauses.ensures, past) in
    let at : slice_get steps place ≡ Some step = slice_get-get_or steps place step inside ∙ ap (λ (s : Step). Some s) (sym c.index-steps-place.is) in
    let sum : length (clauses_of f) + place ≡ c.args.number = omega (arith, c.clauses.ensures, past) in
    let known = known_in_steps f steps c.args.number place step.clause sum (clause_in steps place step at) in
    rw (c.requires.covers, c.lits.ensures.lits, ap (λ (s : Step). s.clause) (sym c.index-steps-place.is)) (c.requires.named c.args.number step.clause known)

pub returns-in-Some-clause-marked : goal.returns-in-Some-clause-marked
returns-in-Some-clause-marked c =
    λ clause at.
    let here = subst (IsClauseAt (clauses_of c.args.formula.now) c.args.number) c.in-Some.is c.clause_at-found.ensures.clause in
    let known = known_in_formula c.args.formula.now c.args.steps.now c.args.number c.in-Some.clause.items here in
    let same = same_clause (known_to c.args.formula.now c.args.steps.now) c.args.number c.in-Some.clause.items clause known at in
    subst (MarksAll (marked c.mark_clause.new.self)) (c.as_slice.ensures.value ∙ same) c.mark_clause.ensures.marked

pub returns-in-None-clause-marked : goal.returns-in-None-clause-marked
returns-in-None-clause-marked c =
    λ clause found.
    let f = c.args.formula.now in
    let steps = c.args.steps.now in
    let place = c.args.number - c.clauses.result in
    let step = c.index-steps-place.result in
    let whole = length_known f steps in
    let past : length (clauses_of f) ≤ c.args.number = subst (IsClauseAt (clauses_of f) c.args.number) c.in-None.is c.clause_at-found.ensures.clause in
    let inside : place < length steps = omega (arith, whole, c.requires.number, c.clauses.ensures, past) in
    let at : slice_get steps place ≡ Some step = slice_get-get_or steps place step inside ∙ ap (λ (s : Step). Some s) (sym c.index-steps-place.is) in
    let sum : length (clauses_of f) + place ≡ c.args.number = omega (arith, c.clauses.ensures, past) in
    let known = known_in_steps f steps c.args.number place step.clause sum (clause_in steps place step at) in
    let same = same_clause (known_to f steps) c.args.number step.clause clause known found in
    subst (MarksAll (marked c.mark_clause-in-None.new.self)) (c.lits.ensures.lits ∙ ap (λ (s : Step). s.clause) (sym c.index-steps-place.is) ∙ same) c.mark_clause-in-None.ensures.marked
