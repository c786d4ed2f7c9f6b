-- What is done bit by bit to two words.
use Rattle.std.specs.Prelude.{◌≡◌, ℕ, ◌<◌, nat_lt, Bool, false, not, ◌&&◌, ◌||◌, if◌then◌else◌, bit_and, bit_or, bit_xor, List, length, slice_index}
use Rattle.std.specs.Bool.{beq}
use Rattle.wb_diagram.specs.declared.nodes.Diagram.{Diagram}
use Rattle.wb_vector.specs.declared.bitwise.Operation.{Operation}
use Rattle.wb_vector.specs.declared.bitwise.Operation.TheVariants.{And, Or, Xor, Choose}
use Rattle.wb_diagram.specs.Forest.{Forest, HasDiagram}
use Rattle.wb_diagram.specs.Growth.{Grown}
use Rattle.wb_diagram.specs.Values.{value}
use Rattle.wb_vector.specs.Vectors.{diagram_at, AreThere}

-- the operation on two bits
abbrev pub on_bits : (ℕ → Bool) → Forest → Operation → Bool → Bool → Bool
on_bits v f And a b = a && b
on_bits v f Or a b = a || b
on_bits v f Xor a b = not (beq a b)
on_bits v f (Choose c) a b = if value v f c then a else b

-- the operation on two numbers
abbrev pub on_numbers : (ℕ → Bool) → Forest → Operation → ℕ → ℕ → ℕ
on_numbers v f And m n = bit_and m n
on_numbers v f Or m n = bit_or m n
on_numbers v f Xor m n = bit_xor m n
on_numbers v f (Choose c) m n = if value v f c then m else n

-- the condition of a choice is there
abbrev pub OperationThere : Forest → Operation → Type 0
OperationThere f And = Unit {0}
OperationThere f Or = Unit {0}
OperationThere f Xor = Unit {0}
OperationThere f (Choose c) = HasDiagram f c

-- the lowest diagrams of two words are combined
pub record Combined (old new : Forest) (operation : Operation) (x y done : List Diagram) (at : ℕ) : Type 0 where
  pub count : length done ≡ 16
  pub grown : Grown old new
  pub there : AreThere new done
  pub value : (v : ℕ → Bool) (k : ℕ) → k < at → value v new (diagram_at done k) ≡ on_bits v old operation (value v old (diagram_at x k)) (value v old (diagram_at y k))

-- the lowest diagrams of a word are inverted
pub record Inverted (old new : Forest) (x done : List Diagram) (at : ℕ) : Type 0 where
  pub count : length done ≡ 16
  pub grown : Grown old new
  pub there : AreThere new done
  pub value : (v : ℕ → Bool) (k : ℕ) → k < at → value v new (diagram_at done k) ≡ not (value v old (diagram_at x k))

-- the lowest diagrams of a word are those of the variables, and the others are false
pub record Named (old new : Forest) (names : List ℕ) (done : List Diagram) (at : ℕ) : Type 0 where
  pub count : length done ≡ 16
  pub grown : Grown old new
  pub there : AreThere new done
  pub value : (v : ℕ → Bool) (k : ℕ) → k < 16 → value v new (diagram_at done k) ≡ (if nat_lt k at then v (slice_index names k) else false)
