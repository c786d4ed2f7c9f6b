use Rattle.std.proofs.Common.{◌+◌, ◌∷◌, [], length, length-append, sym, ◌∙◌, ap, subst, arith}
use Rattle.wb_solve.specs.Search.{clauses_in}
use Rattle.wb_solve.specs.Course.{known_to}
use Rattle.wb_solve.specs.Turns.{IsConflict, AreEndValues, IsSearching}
use Rattle.wb_solve.specs.Halting.{IsHalted}
use Rattle.wb_solve.specs.Answers.{IsUnsat}
use Rattle.wb_solve.proofs.Searching.{searching_first, searching_more, sat_from, unsat_from, empty_is, filled_is}
use Rattle.wb_solve.proofs.search.solve.Goals as goal

pub loop-count-init : goal.loop-count-init
loop-count-init c = record {
  searching = subst (IsSearching c.args.formula.now) (sym c.new-derivation.ensures) (searching_first c.args.formula.now);
  count = ap length c.new-derivation.ensures;
  halted = subst (λ ss. IsHalted c.args.formula.now (clauses_in ss) c.in_ok-descents.descents c.in_ok-descents.halt) c.steps.ensures c.in_ok-descents.ensures;
}

pub returns-in-Values : goal.returns-in-Values
returns-in-Values c =
    let f = c.args.formula.now in
    let values = c.in_ok-values-in-Values.values in
    let here = subst (λ ss. AreEndValues f (known_to f ss) values) c.steps-in-Values.ensures c.in_ok-values-in-Values.ensures in
    sat_from f c.args.limit c.loop-count.derivation values c.stable_values_satisfy.ensures c.gates-gates.ensures.circuit c.loop-count.invariant.searching here (omega (arith, c.loop-count.invariant.count))

pub returns-then-is_last : goal.returns-then-is_last
returns-then-is_last c =
    let f = c.args.formula.now in
    let step = c.in_ok-step.step in
    let here = subst (λ ss. IsConflict f (known_to f ss) step) c.steps-in-loop-count.ensures c.in_ok-step.ensures.conflict in
    subst (IsUnsat f c.args.limit) (sym c.in_ok-push.ensures.ok)
    (unsat_from f c.args.limit c.loop-count.derivation step c.loop-count.invariant.searching here (empty_is step.clause c.is_empty-is_last.result c.is_empty-is_last.ensures c.if-is_last.true) (omega (arith, c.loop-count.invariant.count)))

pub loop-count-preserved : goal.loop-count-preserved
loop-count-preserved c =
    let f = c.args.formula.now in
    let step = c.in_ok-step.step in
    let here = subst (λ ss. IsConflict f (known_to f ss) step) c.steps-in-loop-count.ensures c.in_ok-step.ensures.conflict in
    record {
      searching = subst (IsSearching f) (sym c.in_ok-push.ensures.ok)
          (searching_more f c.loop-count.derivation step c.loop-count.invariant.searching here (filled_is step.clause c.is_empty-is_last.result c.is_empty-is_last.ensures c.if-is_last.false));
      count = ap length c.in_ok-push.ensures.ok ∙ length-append c.loop-count.derivation (step ∷ []) ∙ ap (λ n. n + 1) c.loop-count.invariant.count;
      halted = subst (λ ss. IsHalted f (clauses_in ss) c.resume.new.self c.in_ok-halt.halt) c.steps-in-loop-count-2.ensures c.in_ok-halt.ensures;
    }
