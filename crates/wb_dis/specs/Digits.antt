-- Numbers in hexadecimal, the highest digit first.
use Rattle.std.specs.Prelude.{ℕ, ◌+◌, ◌/◌, ◌%◌, ◌^◌, nat_lt, if◌then◌else◌, List, [], ◌∷◌}

-- a digit in capitals: `0` is 48, and `A` is 65
abbrev pub hex_digit : ℕ → ℕ
hex_digit value = if nat_lt value 10 then 48 + value else 55 + value

-- an address, in three digits
abbrev pub hex3 : ℕ → List ℕ
hex3 n = hex_digit (n / 2 ^ 8 % 16) ∷ hex_digit (n / 2 ^ 4 % 16) ∷ hex_digit (n % 16) ∷ []

-- a data word, in four digits
abbrev pub hex4 : ℕ → List ℕ
hex4 n = hex_digit (n / 2 ^ 12 % 16) ∷ hex3 n

-- a program word, in six digits
abbrev pub hex6 : ℕ → List ℕ
hex6 n = hex_digit (n / 2 ^ 20 % 16) ∷ hex_digit (n / 2 ^ 16 % 16) ∷ hex4 n
