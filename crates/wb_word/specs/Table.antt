-- A table of numbers of one width: what a ROM holds.
use Rattle.std.specs.Prelude.{◌≡◌, ℕ, ◌^◌, ◌<◌, List, length, slice_index}

-- `n` numbers, each below two to the power of `bits`
pub record IsTable (n bits : ℕ) (xs : List ℕ) : Type 0 where
  pub len : length xs ≡ n
  pub each : (k : ℕ) → k < n → slice_index xs k < 2 ^ bits
