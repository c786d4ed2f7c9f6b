-- A bit of a word.
use Rattle.std.specs.Prelude.{ℕ, ◌/◌, ◌%◌, ◌^◌, ◌==◌, Bool}

-- the bit of a place, counted from the low end
abbrev pub bit_of : ℕ → ℕ → Bool
bit_of v m = v / 2 ^ m % 2 == 1
