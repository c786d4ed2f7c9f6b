use Rattle.std.proofs.lemmas.Result.{err_from_is_err_and}
use Rattle.wb_syntax.proofs.Operands.{lists_next, lists_stop, lists_end}
use Rattle.wb_syntax.proofs.instructions.expressions.Goals as goal

pub returns-in_err-expression : goal.returns-in_err-expression
returns-in_err-expression c =
    let here = rw (c.in-Some.is, c.split_first.ensures.parts) at c.loop-rest.invariant in
    let p = err_from_is_err_and c.from_residual.result c.from_residual.ensures.1 in
    rw (p.1, p.2) (lists_stop _ _ _ _ _ here _ c.in_err-expression.ensures)

pub loop-rest-preserved : goal.loop-rest-preserved
loop-rest-preserved c =
    let here = rw (c.in-Some.is, c.split_first.ensures.parts) at c.loop-rest.invariant in
    lists_next _ _ _ _ _ here c.in_ok-expression.field-0 _ c.in_ok-expression.ensures c.in_ok-push.ensures.items

pub returns : goal.returns
returns c = rw c.from_vec.ensures (lists_end _ _ _ (rw c.in_default.is at c.loop-rest.invariant))
