-- Words of entries, the lowest bit first, and the numbers that they stand for.
use Rattle.std.specs.Prelude.{◌≡◌, ℕ, ◌+◌, ◌*◌, ◌^◌, ◌<◌, ◌==◌, not, List, [], ◌∷◌, take, slice_index_or}
use Rattle.wb_gate.specs.Circuit.{Circuit, Assignment, variables, Obeys}
use Rattle.wb_gate.specs.Growth.{Extends}
use Rattle.wb_term.specs.Numbers.{bit}
use Rattle.wb_equal.specs.declared.entries.Entry.{Entry}
use Rattle.wb_equal.specs.declared.entries.Entry.TheVariants.{T}
use Rattle.wb_equal.specs.Entries.{entry_value, EntryBelow}

-- the number that a list of entries stands for
abbrev pub number : Assignment → List Entry → ℕ
number v [] = 0
number v (e ∷ es) = bit (entry_value v e) + 2 * number v es

-- the entry of a place
abbrev pub entry_at : List Entry → ℕ → Entry
entry_at es k = slice_index_or es k T

-- each entry that is a literal names a variable below n
abbrev pub AreBelow : ℕ → List Entry → Type 0
AreBelow n es = (k : ℕ) → EntryBelow n (entry_at es k)

-- the entries are of the circuit, and stand for this number under each assignment that obeys it
pub record IsNumber (c : Circuit) (es : List Entry) (meaning : Assignment → ℕ) : Type 0 where
  pub there : AreBelow (variables c) es
  pub value : (v : Assignment) → Obeys v c → number v es ≡ meaning v

-- the first entry and twice the second are the sum of three
pub record IsSumOf (c : Circuit) (low high x y z : Entry) : Type 0 where
  pub low_there : EntryBelow (variables c) low
  pub high_there : EntryBelow (variables c) high
  pub value : (v : Assignment) → Obeys v c → bit (entry_value v low) + 2 * bit (entry_value v high) ≡ bit (entry_value v x) + bit (entry_value v y) + bit (entry_value v z)

-- the lowest entries of two words and a carry are added
pub record Added (old new : Circuit) (x y : List Entry) (c : Entry) (sum : List Entry) (carry : Entry) (at : ℕ) : Type 0 where
  pub extends : Extends old new (3 * at)
  pub sum_there : AreBelow (variables new) sum
  pub carry_there : EntryBelow (variables new) carry
  pub value : (v : Assignment) → Obeys v new →
      number v (take at sum) + bit (entry_value v carry) * 2 ^ at ≡ number v (take at x) + number v (take at y) + bit (entry_value v c)

-- the carry of the lowest entries of two words and a carry
pub record Carried (old new : Circuit) (x y : List Entry) (c carry : Entry) (at : ℕ) : Type 0 where
  pub extends : Extends old new at
  pub there : EntryBelow (variables new) carry
  pub value : (v : Assignment) → Obeys v new →
      (low : ℕ) × (low < 2 ^ at) × (low + bit (entry_value v carry) * 2 ^ at ≡ number v (take at x) + number v (take at y) + bit (entry_value v c))

-- the entry is true where some of the lowest entries of two words differ
pub record Differing (old new : Circuit) (x y : List Entry) (differs : Entry) (at : ℕ) : Type 0 where
  pub extends : Extends old new (2 * at)
  pub there : EntryBelow (variables new) differs
  pub value : (v : Assignment) → Obeys v new → (number v (take at x) == number v (take at y)) ≡ not (entry_value v differs)
