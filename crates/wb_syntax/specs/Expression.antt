-- Which tokens are an expression, and of which tree.
--
-- An expression is a term, or minus a term, or an expression plus or less a term; a term is an atom, or a term
-- times an atom; an atom is a number, a label, `$`, or an expression in parentheses. So the operators of one
-- rank bind from the left, and a leading minus applies to the first term.
use Rattle.std.specs.Prelude.{◌≡◌, ℕ, ◌+◌, ◌≤◌, Bool, true, false, ◌||◌, ◌==◌, List, length, count_by, slice_get}
use Rattle.std.specs.declared.option.Option.{Option}
use Rattle.std.specs.declared.option.Option.TheVariants.{Some, None}
use Rattle.wb_lex.specs.declared.tokens.Token.{Token}
use Rattle.wb_lex.specs.declared.tokens.TokenKind.{TokenKind}
use Rattle.wb_lex.specs.declared.tokens.TokenKind.TheVariants as kind
use Rattle.wb_syntax.specs.declared.spans.Span.{Span}
use Rattle.wb_syntax.specs.Spelling.{IsLabel}
use Rattle.wb_syntax.specs.Tree.{Tree, Number, Label, Here, Minus, Plus, Less, Times}

-- the token at a place
abbrev pub Stands : List Token → ℕ → Token → Type 0
Stands tokens place token = slice_get tokens place ≡ Some token

abbrev pub is_mark_kind : ℕ → TokenKind → Bool
is_mark_kind mark (kind.Mark other) = other == mark
is_mark_kind mark _ = false

abbrev pub is_this_mark : ℕ → Option Token → Bool
is_this_mark mark None = false
is_this_mark mark (Some token) = is_mark_kind mark token.kind

-- this mark stands at a place
abbrev pub has_mark : List Token → ℕ → ℕ → Bool
has_mark tokens place mark = is_this_mark mark (slice_get tokens place)

-- The tokens from one place up to another are an expression, a term or an atom of this tree, where parentheses
-- nest at most so deep: 36 is `$`, 40 and 41 are the parentheses, 42 is `*`, 43 `+` and 45 `-`.
mutual
  pub data IsExpr (text : List ℕ) (tokens : List Token) : ℕ → ℕ → ℕ → Tree → Type 0 where
    term : (depth start end : ℕ) (x : Tree) → IsTerm text tokens depth start end x → IsExpr text tokens depth start end x
    minus : (depth start end : ℕ) (x : Tree) → has_mark tokens start 45 ≡ true → IsTerm text tokens depth (start + 1) end x
        → IsExpr text tokens depth start end (Minus x)
    plus : (depth start middle end : ℕ) (x y : Tree) → IsExpr text tokens depth start middle x → has_mark tokens middle 43 ≡ true
        → IsTerm text tokens depth (middle + 1) end y → IsExpr text tokens depth start end (Plus x y)
    less : (depth start middle end : ℕ) (x y : Tree) → IsExpr text tokens depth start middle x → has_mark tokens middle 45 ≡ true
        → IsTerm text tokens depth (middle + 1) end y → IsExpr text tokens depth start end (Less x y)

  pub data IsTerm (text : List ℕ) (tokens : List Token) : ℕ → ℕ → ℕ → Tree → Type 0 where
    atom : (depth start end : ℕ) (x : Tree) → IsAtom text tokens depth start end x → IsTerm text tokens depth start end x
    times : (depth start middle end : ℕ) (x y : Tree) → IsTerm text tokens depth start middle x → has_mark tokens middle 42 ≡ true
        → IsAtom text tokens depth (middle + 1) end y → IsTerm text tokens depth start end (Times x y)

  pub data IsAtom (text : List ℕ) (tokens : List Token) : ℕ → ℕ → ℕ → Tree → Type 0 where
    number : (depth start end n : ℕ) (token : Token) → end ≡ start + 1 → Stands tokens start token → token.kind ≡ kind.Number n
        → IsAtom text tokens depth start end (Number n)
    label : (depth start end : ℕ) (span : Span) (token : Token) → end ≡ start + 1 → Stands tokens start token → IsLabel text token span
        → IsAtom text tokens depth start end (Label span)
    here : (depth start end : ℕ) → end ≡ start + 1 → has_mark tokens start 36 ≡ true → IsAtom text tokens depth start end Here
    inside : (depth deeper start close end : ℕ) (x : Tree) → depth ≡ deeper + 1 → end ≡ close + 1 → has_mark tokens start 40 ≡ true
        → IsExpr text tokens deeper (start + 1) close x → has_mark tokens close 41 ≡ true → IsAtom text tokens depth start end x

-- one of the marks `+`, `-` and `*`
abbrev pub is_operator_kind : TokenKind → Bool
is_operator_kind (kind.Mark mark) = mark == 43 || mark == 45 || mark == 42
is_operator_kind _ = false

abbrev pub is_operator : Token → Bool
is_operator token = is_operator_kind token.kind

-- the tokens are an expression of this tree, within the limits of parentheses and operators
pub record IsExpression (text : List ℕ) (tokens : List Token) (tree : Tree) : Type 0 where
  pub is : IsExpr text tokens 16 0 (length tokens) tree
  pub few : count_by is_operator tokens ≤ 256
