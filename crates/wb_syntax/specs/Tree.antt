-- Expressions, as contracts see them.
use Rattle.std.specs.Prelude.{ℕ, ◌+◌}
use Rattle.wb_syntax.specs.declared.spans.Span.{Span}

pub data Tree : Type 0 where
  Number : ℕ → Tree
  -- a name that stands for a number
  Label : Span → Tree
  -- `$`, the counter before the statement
  Here : Tree
  Minus : Tree → Tree
  Plus : Tree → Tree → Tree
  -- the first less the second
  Less : Tree → Tree → Tree
  Times : Tree → Tree → Tree

-- how many numbers, labels, `$` and operators it has
abbrev pub node_count : Tree → ℕ
node_count (Number number) = 1
node_count (Label label) = 1
node_count Here = 1
node_count (Minus x) = node_count x + 1
node_count (Plus x y) = node_count x + node_count y + 1
node_count (Less x y) = node_count x + node_count y + 1
node_count (Times x y) = node_count x + node_count y + 1
