-- What the variables of the diagrams say under inputs.
use Rattle.std.specs.Prelude.{◌≡◌, ℕ, ◌+◌, ◌-◌, ◌*◌, ◌<◌, ◌==◌, Bool, length, slice_index}
use Rattle.std.specs.Int.{bit_at}
use Rattle.wb_term.specs.Inputs.{Assignment}
use Rattle.wb_term.specs.Terms.{Terms}
use Rattle.wb_term.specs.Values.{value}

-- the variable of a bit of a byte among those that are asked for byte by byte, the highest bit of each first
abbrev pub byte_by_byte : ℕ → ℕ → ℕ
byte_by_byte place b = 8 * place + (7 - b)

-- the variable of a bit of a byte among those that are asked for side by side, the highest bits of all first
abbrev pub side_by_side : ℕ → ℕ → ℕ
side_by_side place b = 128 + 16 * (7 - b) + place

-- the variable of a bit of a node, which comes after all bits of bytes
abbrev pub own_variable : ℕ → ℕ → ℕ
own_variable k b = 256 + 16 * k + b

-- Under these inputs each variable of a byte's bit is that bit, and each variable of a node's bit is the bit of its
-- value. The variables of nodes that aren't there may be anything.
pub record IsWorld (inputs : Assignment) (g : Terms) (w : ℕ → Bool) : Type 0 where
  pub byte_by_byte : (place b : ℕ) → place < 16 → b < 8 → w (byte_by_byte place b) ≡ (bit_at (slice_index inputs.bytes place) b == 1)
  pub side_by_side : (place b : ℕ) → place < 16 → b < 8 → w (side_by_side place b) ≡ (bit_at (slice_index inputs.bytes place) b == 1)
  pub own : (k b : ℕ) → k < length g.nodes → b < 16 → w (own_variable k b) ≡ (bit_at (value inputs g k) b == 1)
