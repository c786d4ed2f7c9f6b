-- The laws of sums and differences of words.
use Rattle.std.proofs.Common.{◌≡◌, ℕ, ◌+◌, ◌-◌, ◌*◌, ◌==◌, ◌<◌, ◌^◌, not, nat_lt, Bool, true, false, refl, sym, arith, bit_and, bit_or}
use lib.Bits.{or_disjoint, or_lt}
use Rattle.wb_term.specs.Numbers.{bit, cut, less}
use Rattle.wb_known.specs.Bits.{bit_of}

pub sum_not : (x y : ℕ) (c : Bool) → x < 65536 → y < 65536 → cut (x + (65535 - y) + bit c) ≡ less x (y + bit (not c))
sum_not x y true h k = omega arith
sum_not x y false h k = omega arith

pub diff_not : (x y : ℕ) (c : Bool) → x < 65536 → y < 65536 → less x (65535 - y + bit c) ≡ cut (x + y + bit (not c))
diff_not x y true h k = omega arith
diff_not x y false h k = omega arith

-- a difference in two steps: with the other word turned over, and then one more
pub sum_not_and_one : (x y : ℕ) → x < 65536 → y < 65536 → cut (cut (x + (65535 - y) + 0) + 1 + 0) ≡ less x (y + 0)
sum_not_and_one x y h k = omega arith

pub diff_and_one : (x y : ℕ) → x < 65536 → y < 65536 → cut (less x (y + 1) + 1 + 0) ≡ less x (y + 0)
diff_and_one x y h k = omega arith

-- to add a negated word is to take it away
pub sum_negated : (x y : ℕ) → x < 65536 → y < 65536 → cut (x + less 0 (y + 0) + 0) ≡ less x (y + 0)
sum_negated x y h k = omega arith

pub sum_turned_and_one : (x y : ℕ) → x < 65536 → y < 65536 → cut (x + cut (65535 - y + 1 + 0) + 0) ≡ less x (y + 0)
sum_turned_and_one x y h k = omega arith

pub sum_less : (x y : ℕ) → x < 65536 → y < 65536 → cut (x + less 0 y + 0) ≡ less x (y + 0)
sum_less x y h k = omega arith

pub diff_less : (x y : ℕ) → x < 65536 → y < 65536 → less x (less 0 y + 0) ≡ cut (x + y + 0)
diff_less x y h k = omega arith

pub not_and_one : (y : ℕ) → y < 65536 → cut (65535 - y + 1 + 0) ≡ less 0 (y + 0)
not_and_one y h = omega arith

pub doubled : (x : ℕ) → cut (x + x + 0) ≡ cut (x * 2 ^ 1)
doubled x = omega arith

pub sum_apart : (x y : ℕ) → x < 65536 → y < 65536 → bit_and x y ≡ 0 → cut (x + y + 0) ≡ bit_or x y
sum_apart x y h k apart =
    let e = or_disjoint x y apart in
    let l = or_lt 16 x y h k in
    omega (arith, e, l)

-- a word and itself are over 65535 where its highest bit is set
pub carry_of_doubled : (x : ℕ) (c : Bool) → x < 65536 → nat_lt 65535 (x + x + bit c) ≡ bit_of x 15
carry_of_doubled x true h = grind arith
carry_of_doubled x false h = grind arith

pub borrow_of_same : (x : ℕ) (c : Bool) → nat_lt x (x + bit c) ≡ c
borrow_of_same x true = grind arith
borrow_of_same x false = grind arith

pub ruleset sum_laws = (sum_not, sum_less)

pub ruleset diff_laws = (diff_not, diff_less)

pub ruleset one_more_laws = (sum_not_and_one, diff_and_one, not_and_one)

pub ruleset bare_sum_laws = (doubled, sum_apart)

same_if : (v w : ℕ) → (b : Bool) → (v == w) ≡ b → (w == v) ≡ b
same_if v w true e = let s : v ≡ w = grind arith in grind arith
same_if v w false e = grind arith

pub same_comm : (v w : ℕ) → (v == w) ≡ (w == v)
same_comm v w = sym (same_if v w (v == w) refl)
