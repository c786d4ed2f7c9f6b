-- Numbers of 32 bits in two words of entries, and the products of two words.
use Rattle.std.specs.Prelude.{◌≡◌, ℕ, ◌+◌, ◌*◌, ◌%◌, ◌^◌, if◌then◌else◌, nat_lt, List, take}
use Rattle.wb_gate.specs.Circuit.{Circuit, Assignment, variables, Obeys}
use Rattle.wb_gate.specs.Growth.{Extends}
use Rattle.wb_equal.specs.declared.entries.Entry.{Entry}
use Rattle.wb_blast.specs.declared.products.Double.{Double}
use Rattle.wb_blast.specs.Words.{number, AreBelow}

-- the number that a low and a high word stand for
abbrev pub double : Assignment → Double → ℕ
double v d = number v d.low + 65536 * number v d.high

-- each entry of both words that is a literal names a variable below n
abbrev pub IsDoubleBelow : ℕ → Double → Type 0
IsDoubleBelow n d = AreBelow n d.low × AreBelow n d.high

-- 16 bits with the highest repeated 16 times above
abbrev pub extended : ℕ → ℕ
extended n = if nat_lt n 32768 then n else n + 4294901760

-- the low 32 bits of a number
abbrev pub cut_double : ℕ → ℕ
cut_double n = n % 4294967296

-- the two words are of the circuit, and stand for this number under each assignment that obeys it
pub record IsDouble (c : Circuit) (d : Double) (meaning : Assignment → ℕ) : Type 0 where
  pub there : IsDoubleBelow (variables c) d
  pub value : (v : Assignment) → Obeys v c → double v d ≡ meaning v

-- twice the first word's number is multiplied by the lowest bits of the second; the row is the next multiple
pub record Multiplied (old new : Circuit) (x y : List Entry) (sum row : Double) (at : ℕ) : Type 0 where
  pub extends : Extends old new (128 * at)
  pub sum_there : IsDoubleBelow (variables new) sum
  pub row_there : IsDoubleBelow (variables old) row
  pub row_value : (v : Assignment) → double v row ≡ cut_double (2 ^ at * (2 * extended (number v x)))
  pub sum_value : (v : Assignment) → Obeys v new → double v sum ≡ cut_double (2 * extended (number v x) * number v (take at y))
