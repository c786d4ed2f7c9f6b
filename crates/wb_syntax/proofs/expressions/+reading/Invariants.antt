use Rattle.std.proofs.Common.{◌≡◌, ◌<◌, ◌+◌, ◌*◌, ◌-◌, false, length}
use Rattle.wb_syntax.specs.Expression.{has_mark, IsExpr, IsTerm}
use Rattle.wb_syntax.proofs.expressions.+reading.Given as goal

abbrev pub decreases-atom : goal.decreases-atom
decreases-atom l = l.depth * 5 + 1

abbrev pub decreases-inside : goal.decreases-inside
decreases-inside l = l.depth * 5

abbrev pub decreases-term : goal.decreases-term
decreases-term l = l.depth * 5 + 2

abbrev pub decreases-first_term : goal.decreases-first_term
decreases-first_term l = l.depth * 5 + 3

abbrev pub decreases-expr : goal.decreases-expr
decreases-expr l = l.depth * 5 + 4

-- the tokens so far are a term
abbrev pub invariant-term-loop-alloc : goal.invariant-term-loop-alloc
invariant-term-loop-alloc l = record {
  is : IsTerm l.text l.tokens l.depth l.start l.at l.product;
  further : l.start < l.at;
}

abbrev pub decreases-term-loop-alloc : goal.decreases-term-loop-alloc
decreases-term-loop-alloc l = length l.tokens - l.at

-- the tokens so far are an expression, whose last term is whole
abbrev pub invariant-expr-loop-alloc : goal.invariant-expr-loop-alloc
invariant-expr-loop-alloc l = record {
  is : IsExpr l.text l.tokens l.depth l.start l.at l.sum;
  whole : has_mark l.tokens l.at 42 ≡ false;
  further : l.start < l.at;
}

abbrev pub decreases-expr-loop-alloc : goal.decreases-expr-loop-alloc
decreases-expr-loop-alloc l = length l.tokens - l.at
