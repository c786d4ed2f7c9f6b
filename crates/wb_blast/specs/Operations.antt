-- What is done bit by bit to two words.
use Rattle.std.specs.Prelude.{◌≡◌, ℕ, ◌<◌, Bool, ◌&&◌, ◌||◌, if◌then◌else◌, bit_and, bit_or, bit_xor, List}
use Rattle.wb_gate.specs.Circuit.{Circuit, Assignment, variables, xor, Obeys}
use Rattle.wb_gate.specs.Growth.{Extends}
use Rattle.wb_equal.specs.declared.entries.Entry.{Entry}
use Rattle.wb_blast.specs.declared.bitwise.Operation.{Operation}
use Rattle.wb_blast.specs.declared.bitwise.Operation.TheVariants.{And, Or, Xor, Choose}
use Rattle.wb_equal.specs.Entries.{entry_value, EntryBelow}
use Rattle.wb_blast.specs.Words.{entry_at, AreBelow}

-- the operation on two bits
abbrev pub on_bits : Assignment → Operation → Bool → Bool → Bool
on_bits v And a b = a && b
on_bits v Or a b = a || b
on_bits v Xor a b = xor a b
on_bits v (Choose c) a b = if entry_value v c then a else b

-- the operation on two numbers
abbrev pub on_numbers : Assignment → Operation → ℕ → ℕ → ℕ
on_numbers v And m n = bit_and m n
on_numbers v Or m n = bit_or m n
on_numbers v Xor m n = bit_xor m n
on_numbers v (Choose c) m n = if entry_value v c then m else n

-- the condition of a choice names a variable below n, where it is a literal
abbrev pub OperationBelow : ℕ → Operation → Type 0
OperationBelow n And = Unit {0}
OperationBelow n Or = Unit {0}
OperationBelow n Xor = Unit {0}
OperationBelow n (Choose c) = EntryBelow n c

-- the lowest entries of two words are combined
pub record Combined (old new : Circuit) (operation : Operation) (x y done : List Entry) (at : ℕ) : Type 0 where
  pub extends : Extends old new at
  pub there : AreBelow (variables new) done
  pub value : (v : Assignment) → Obeys v new → (k : ℕ) → k < at → entry_value v (entry_at done k) ≡ on_bits v operation (entry_value v (entry_at x k)) (entry_value v (entry_at y k))
