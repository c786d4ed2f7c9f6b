use Rattle.std.proofs.Common.{true, false, sym, subst, refl, arith}
use Rattle.wb_solve.specs.Course.{known_to}
use Rattle.wb_solve.specs.Turns.{IsConflict, AreEndValues}
use Rattle.wb_solve.specs.Answers.{IsUnsat}
use Rattle.wb_solve.proofs.Searching.{sat_from, unsat_from, spent_from, empty_is, filled_is}
use Rattle.wb_solve.proofs.search.last_answer.Goals as goal

pub returns-in-Values : goal.returns-in-Values
returns-in-Values c =
    let f = c.args.formula.now in
    let values = c.in_ok-values-in-Values.values in
    let here = subst (λ ss. AreEndValues f (known_to f ss) values) c.steps.ensures c.in_ok-values-in-Values.ensures in
    sat_from f c.args.limit c.args.derivation values c.stable_values_satisfy.ensures c.gates-gates.ensures.circuit c.requires.searching here (omega (arith, c.requires.count))

pub returns-then-not-is_empty : goal.returns-then-not-is_empty
returns-then-not-is_empty c =
    let f = c.args.formula.now in
    let step = c.in_ok-step.step in
    let here = subst (λ ss. IsConflict f (known_to f ss) step) c.steps-2.ensures c.in_ok-step.ensures.conflict in
    spent_from f c.args.limit c.args.derivation step c.requires.searching here (filled_is step.clause false c.if-not-is_empty.ensures refl) c.requires.count

pub returns : goal.returns
returns c =
    let f = c.args.formula.now in
    let step = c.in_ok-step.step in
    let here = subst (λ ss. IsConflict f (known_to f ss) step) c.steps-2.ensures c.in_ok-step.ensures.conflict in
    subst (IsUnsat f c.args.limit) (sym c.in_ok-push.ensures.ok)
    (unsat_from f c.args.limit c.args.derivation step c.requires.searching here (empty_is step.clause true c.if-not-is_empty.ensures refl) (omega (arith, c.requires.count)))
