-- Words of 16 bits as exact whole numbers.
use Rattle.std.specs.Prelude.{ℕ, ◌+◌, ◌-◌, ◌%◌, ◌^◌, ℤ, pos, ◌-ℤ◌, ◌*ℤ◌, Bool, if◌then◌else◌, nat_lt, unsigned_abs}
use Rattle.std.specs.Int.{int_rem_euclid}

-- a bit as 0 or 1
abbrev pub bit : Bool → ℕ
bit b = if b then 1 else 0

-- the low 16 bits of a number
abbrev pub cut : ℕ → ℕ
cut n = n % 65536

-- the low 16 bits of `x` less `n`, where `n` is at most 65536
abbrev pub less : ℕ → ℕ → ℕ
less x n = cut (x + 65536 - n)

-- 16 bits as a signed number: from 32768 upwards they stand for 65536 less
abbrev pub signed : ℕ → ℤ
signed n = if nat_lt n 32768 then pos n else (pos n -ℤ pos 65536)

-- twice the signed product, cut to 32 bits
unfoldable pub product : ℕ → ℕ → ℕ
product x y = unsigned_abs (int_rem_euclid (signed x *ℤ signed y *ℤ pos 2) (pos (2 ^ 32)))
