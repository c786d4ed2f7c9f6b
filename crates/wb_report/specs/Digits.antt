-- Numbers, letters and lines as they are printed.
use Rattle.std.specs.Prelude.{ℕ, ◌+◌, ◌/◌, ◌%◌, nat_lt, if◌then◌else◌, List, [], ◌∷◌, ◌++◌}
use Rattle.wb_word.specs.declared.sides.Side.{Side}
use Rattle.wb_word.specs.declared.sides.Side.TheVariants as side

-- a hexadecimal digit, in capitals: `0` is 48, and `A` is 65
abbrev pub hex_digit : ℕ → ℕ
hex_digit value = if nat_lt value 10 then 48 + value else 55 + value

-- the low 8, 12 or 16 bits of a number, as two, three or four hexadecimal digits
abbrev pub hex_byte : ℕ → List ℕ
hex_byte byte = hex_digit (byte / 16 % 16) ∷ hex_digit (byte % 16) ∷ []

abbrev pub hex_address : ℕ → List ℕ
hex_address at = hex_digit (at / 256 % 16) ∷ hex_byte at

abbrev pub hex_word : ℕ → List ℕ
hex_word word = hex_byte (word / 256) ++ hex_byte word

abbrev pub letter : Side → ℕ
letter side.A = 65
letter side.B = 66

-- a line and its line feed
abbrev pub with_feed : List ℕ → List ℕ
with_feed line = line ++ 10 ∷ []
