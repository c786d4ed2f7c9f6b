-- Sums and differences of words, and what is known of them at their lowest bits.
use Rattle.std.specs.Prelude.{◌≡◌, ℕ, ◌+◌, ◌-◌, ◌*◌, ◌^◌, Bool, not, ◌==◌, nat_lt, if◌then◌else◌, List, length, take}
use Rattle.std.specs.Bool.{beq}
use Rattle.wb_diagram.specs.declared.nodes.Diagram.{Diagram}
use Rattle.wb_diagram.specs.Forest.{Forest, HasDiagram}
use Rattle.wb_diagram.specs.Growth.{Grown}
use Rattle.wb_diagram.specs.Values.{value, IsFunction}
use Rattle.wb_vector.specs.Vectors.{bit, number, AreThere}

-- whether two bits differ
abbrev pub differ : Bool → Bool → Bool
differ a b = not (beq a b)

-- the carry of three bits
abbrev pub carry_bit : Bool → Bool → Bool → Bool
carry_bit a b c = if differ a b then c else a

-- the borrow of a bit less two bits
abbrev pub borrow_bit : Bool → Bool → Bool → Bool
borrow_bit a b c = if differ a b then b else c

-- the lowest diagrams of two words and a carry are added
pub record Added (old new : Forest) (x y : List Diagram) (c : Diagram) (sum : List Diagram) (carry : Diagram) (at : ℕ) : Type 0 where
  pub count : length sum ≡ 16
  pub grown : Grown old new
  pub sum_there : AreThere new sum
  pub carry_there : HasDiagram new carry
  pub value : (v : ℕ → Bool) → number v new (take at sum) + bit (value v new carry) * 2 ^ at ≡ number v old (take at x) + number v old (take at y) + bit (value v old c)

-- the lowest diagrams of a word and a borrow are taken from those of another
pub record Subtracted (old new : Forest) (x y : List Diagram) (c : Diagram) (difference : List Diagram) (borrow : Diagram) (at : ℕ) : Type 0 where
  pub count : length difference ≡ 16
  pub grown : Grown old new
  pub difference_there : AreThere new difference
  pub borrow_there : HasDiagram new borrow
  pub value : (v : ℕ → Bool) →
      number v new (take at difference) + number v old (take at y) + bit (value v old c) ≡ number v old (take at x) + bit (value v new borrow) * 2 ^ at

-- the carry of the lowest diagrams of two words and a carry
pub record Carried (old new : Forest) (x y : List Diagram) (c carry : Diagram) (at : ℕ) : Type 0 where
  pub grown : Grown old new
  pub means : IsFunction new carry (λ v. nat_lt (2 ^ at - 1) (number v old (take at x) + number v old (take at y) + bit (value v old c)))

-- the borrow of the lowest diagrams of a word less those of another and a borrow
pub record Borrowed (old new : Forest) (x y : List Diagram) (c borrow : Diagram) (at : ℕ) : Type 0 where
  pub grown : Grown old new
  pub means : IsFunction new borrow (λ v. nat_lt (number v old (take at x)) (number v old (take at y) + bit (value v old c)))

-- whether the lowest diagrams of two words agree
pub record Agreeing (old new : Forest) (x y : List Diagram) (same : Diagram) (at : ℕ) : Type 0 where
  pub grown : Grown old new
  pub means : IsFunction new same (λ v. number v old (take at x) == number v old (take at y))
