use Rattle.std.proofs.Common.{arith, refl}
use Rattle.wb_syntax.proofs.OneClause.{begin, next, no_clause, twice}
use Rattle.wb_syntax.proofs.fields.fields.Goals as goal

pub loop-rest-init : goal.loop-rest-init
loop-rest-init c = begin c.args.text.now c.args.tokens.now _ c.empty_word-word.result refl c.empty_word-word.ensures

pub returns-in_err-clause : goal.returns-in_err-clause
returns-in_err-clause c =
    let here = rw (c.in-Some.is, c.split_first.ensures.parts) at c.loop-rest.invariant in
    rw c.from_residual.ensures (no_clause _ _ _ _ _ _ here c.in_err-clause.ensures)

pub returns-then-seen-sort : goal.returns-then-seen-sort
returns-then-seen-sort c =
    let here = rw (c.in-Some.is, c.split_first.ensures.parts) at c.loop-rest.invariant in
    twice _ _ _ _ _ _ here c.in_ok-clause.clause c.in_ok-clause.ensures (rw c.sort-sort.ensures.value at c.if-seen-sort.true)

pub loop-rest-preserved : goal.loop-rest-preserved
loop-rest-preserved c =
    let here = rw (c.in-Some.is, c.split_first.ensures.parts) at c.loop-rest.invariant in
    rw (c.sort-sort.ensures.value, c.onto-word.ensures) (
    next _ _ _ _ _ _ here c.in_ok-clause.clause c.in_ok-clause.ensures (omega (arith, c.sort-sort.ensures.value, c.sort-sort.ensures.below)) (rw c.sort-sort.ensures.value at c.if-seen-sort.false))
