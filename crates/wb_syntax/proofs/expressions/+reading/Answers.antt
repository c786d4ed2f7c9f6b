use Rattle.std.proofs.Common.{sym, ◌∙◌, arith}
use Rattle.std.proofs.lemmas.Result.{err_from_is_err_and}
use Rattle.wb_syntax.specs.Expression.{atom}
use Rattle.wb_syntax.proofs.Readings.{inside_closed, inside_refused, term_refused, factor_refused, minus_refused, expr_refused, summand_refused, first_is, factor_is, summand_is}
use Rattle.wb_syntax.proofs.expressions.+reading.Goals as goal

pub expr-returns-in_err-sum-clause-reading : goal.expr-returns-in_err-sum-clause-reading
expr-returns-in_err-sum-clause-reading t c =
    let p = err_from_is_err_and c.from_residual.result c.from_residual.ensures.1 in
    rw (p.1, p.2) (expr_refused c.args.text.now c.args.tokens.now c.args.depth c.args.start _ c.in_err-sum.ensures.reading)

pub expr-loop-alloc-init : goal.expr-loop-alloc-init
expr-loop-alloc-init t c = record {
  is = first_is c.args.text.now c.args.tokens.now c.args.depth c.args.start c.in_ok-sum.at c.in_ok-sum.sum c.in_ok-sum.ensures.reading.0;
  whole = c.in_ok-sum.ensures.reading.1;
  further = c.in_ok-sum.ensures.further;
}

pub expr-returns-in_err-y-clause-reading : goal.expr-returns-in_err-y-clause-reading
expr-returns-in_err-y-clause-reading t c =
    let p = err_from_is_err_and c.from_residual-in_err-y.result c.from_residual-in_err-y.ensures.1 in
    rw (p.1, p.2) (
    summand_refused c.args.text.now c.args.tokens.now c.args.depth c.args.start _ c.loop-alloc.sum c.loop-alloc.at c.loop-alloc.invariant.is
    (sym c.has_sum_mark.ensures.value ∙ c.loop-alloc-test.true) c.in_err-y.ensures.reading)

pub expr-loop-alloc-preserved : goal.expr-loop-alloc-preserved
expr-loop-alloc-preserved t c = record {
  is =
      summand_is c.args.text.now c.args.tokens.now c.args.depth c.args.start c.loop-alloc.at c.in_ok-y.end c.loop-alloc.sum c.in_ok-y.y c.in_ok-sum-2.sum c.loop-alloc.invariant.is
      (sym c.has_sum_mark.ensures.value ∙ c.loop-alloc-test.true) c.in_ok-y.ensures.reading.0 (rw (← c.has_mark-subtract.ensures.value) c.in_ok-sum-2.ensures);
  whole = c.in_ok-y.ensures.reading.1;
  further = omega (arith, c.in_ok-y.ensures.further);
}

pub first_term-returns-in_err-x-clause-reading : goal.first_term-returns-in_err-x-clause-reading
first_term-returns-in_err-x-clause-reading t c =
    let p = err_from_is_err_and c.from_residual.result c.from_residual.ensures.1 in
    rw (p.1, p.2) (minus_refused c.args.text.now c.args.tokens.now c.args.depth c.args.start _ (sym c.has_mark.ensures.value ∙ c.if-has_mark.true) c.in_err-x.ensures.reading)

pub inside-returns-in-Ok-clause-reading : goal.inside-returns-in-Ok-clause-reading
inside-returns-in-Ok-clause-reading t c =
    inside_closed c.args.text.now c.args.tokens.now c.args.depth c.args.start c.in-Ok.x c.in-Ok.close c.closed.result c.requires.opened (omega arith) c.in-Ok.ensures.reading c.closed.ensures

pub inside-returns-in-Err-clause-reading : goal.inside-returns-in-Err-clause-reading
inside-returns-in-Err-clause-reading t c =
    inside_refused c.args.text.now c.args.tokens.now c.args.depth c.args.start c.in-Err.refusal c.requires.opened (omega arith) c.in-Err.ensures.reading

pub term-returns-in_err-product-clause-reading : goal.term-returns-in_err-product-clause-reading
term-returns-in_err-product-clause-reading t c =
    let p = err_from_is_err_and c.from_residual.result c.from_residual.ensures.1 in
    rw (p.1, p.2) (term_refused c.args.text.now c.args.tokens.now c.args.depth c.args.start _ c.in_err-product.ensures.reading)

pub term-loop-alloc-init : goal.term-loop-alloc-init
term-loop-alloc-init t c = record {
  is = atom c.args.depth c.args.start c.in_ok-product.at c.in_ok-product.product c.in_ok-product.ensures.reading;
  further = c.in_ok-product.ensures.further;
}

pub term-returns-in_err-factor-clause-reading : goal.term-returns-in_err-factor-clause-reading
term-returns-in_err-factor-clause-reading t c =
    let p = err_from_is_err_and c.from_residual-in_err-factor.result c.from_residual-in_err-factor.ensures.1 in
    rw (p.1, p.2) (
    factor_refused c.args.text.now c.args.tokens.now c.args.depth c.args.start _ c.loop-alloc.product c.loop-alloc.at c.loop-alloc.invariant.is
    (sym c.has_mark.ensures.value ∙ c.loop-alloc-test.true) c.in_err-factor.ensures.reading)

pub term-loop-alloc-preserved : goal.term-loop-alloc-preserved
term-loop-alloc-preserved t c = record {
  is =
      factor_is c.args.text.now c.args.tokens.now c.args.depth c.args.start c.loop-alloc.at c.in_ok-factor.end c.loop-alloc.product c.in_ok-factor.factor c.in_ok-product-2.product c.loop-alloc.invariant.is
      (sym c.has_mark.ensures.value ∙ c.loop-alloc-test.true) c.in_ok-factor.ensures.reading c.in_ok-product-2.ensures;
  further = omega (arith, c.in_ok-factor.ensures.further);
}
