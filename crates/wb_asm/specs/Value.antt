-- What an expression stands for.
use Rattle.std.specs.Prelude.{ℕ, ◌-◌, ◌^◌, ℤ, pos, negsuc, neg_ℤ, ◌+ℤ◌, ◌-ℤ◌, ◌*ℤ◌, Bool, true, ◌&&◌, not, if◌then◌else◌, List, slice_range, is_some, unwrap_or}
use Rattle.std.specs.Int.RustNames.{int_le}
use Rattle.std.specs.Map.{lookup}
use Rattle.std.specs.Str.{bytes_eq}
use Rattle.std.specs.declared.option.Option.{Option}
use Rattle.std.specs.declared.option.Option.TheVariants.{Some, None}
use Rattle.wb_syntax.specs.declared.spans.Span.{Span}
use Rattle.wb_syntax.specs.Tree.{Tree, Number, Label, Here, Minus, Plus, Less, Times}
use Rattle.wb_asm.specs.declared.faults.AsmKind.{AsmKind}
use Rattle.wb_asm.specs.declared.faults.AsmKind.TheVariants.{Unknown, Range}

-- names and the numbers that they stand for, in the order of their definitions
abbrev pub Names : Type 0
Names = List (List ℕ × ℤ)

-- the number that a name stands for
abbrev pub number_named : Names → List ℕ → Option ℤ
number_named names name = lookup (λ known. bytes_eq name known) names

-- the name that a slice of the text spells
abbrev pub name_of : List ℕ → Span → List ℕ
name_of text span = slice_range text span.start span.end

abbrev pub is_between : ℤ → ℤ → ℤ → Bool
is_between low high number = int_le low number && int_le number high

-- the range of a number on the way to the value of an expression: 64 bits with a sign
abbrev pub is_intermediate : ℤ → Bool
is_intermediate number = is_between (negsuc (2 ^ 63 - 1)) (pos (2 ^ 63 - 1)) number

-- where these names are known, and `$` is this number
module _ (text : List ℕ) (names : Names) (here : ℕ) where
  -- each name of the expression is known
  abbrev pub is_known : Tree → Bool
  is_known (Number number) = true
  is_known (Label span) = is_some (number_named names (name_of text span))
  is_known Here = true
  is_known (Minus x) = is_known x
  is_known (Plus x y) = is_known x && is_known y
  is_known (Less x y) = is_known x && is_known y
  is_known (Times x y) = is_known x && is_known y

  -- the whole number that the expression stands for
  abbrev pub exact : Tree → ℤ
  exact (Number number) = pos number
  exact (Label span) = unwrap_or (number_named names (name_of text span)) (pos 0)
  exact Here = pos here
  exact (Minus x) = neg_ℤ (exact x)
  exact (Plus x y) = exact x +ℤ exact y
  exact (Less x y) = exact x -ℤ exact y
  exact (Times x y) = exact x *ℤ exact y

  -- the number of each part of the expression is in range
  abbrev pub is_narrow : Tree → Bool
  is_narrow (Number number) = true
  is_narrow (Label span) = true
  is_narrow Here = true
  is_narrow (Minus x) = is_narrow x && is_intermediate (exact (Minus x))
  is_narrow (Plus x y) = (is_narrow x && is_narrow y) && is_intermediate (exact (Plus x y))
  is_narrow (Less x y) = (is_narrow x && is_narrow y) && is_intermediate (exact (Less x y))
  is_narrow (Times x y) = (is_narrow x && is_narrow y) && is_intermediate (exact (Times x y))

  -- what is wrong with an expression that has to be in a range: a name isn't known, or else a number is out of range
  unfoldable pub value_fault : ℤ → ℤ → Tree → Option AsmKind
  value_fault low high x =
      if not (is_known x) then Some Unknown
      else if not (is_narrow x && is_between low high (exact x)) then Some Range
      else None
