-- The laws of words that are parts of others, or built of them.
use Rattle.std.proofs.Common.{◌≡◌, ℕ, ◌+◌, ◌-◌, ◌*◌, ◌<◌, ◌^◌, sym, ap, ◌∙◌, arith, bit_and, bit_or, bit_xor}
use Rattle.std.proofs.lemmas.Nat.{and_assoc, and_or_self, and-not}
pub use lib.Bits.{and_self, and_comm, or_comm}
use lib.Bits.{xor_self, xor_zero_l, or_add_and, xor_add_and, xor_assoc}
use Rattle.wb_term.specs.Numbers.{cut}

-- a word shares no bit with its opposite, and both together have all
pub and_opposite : (v : ℕ) → v < 65536 → bit_and (65535 - v) v ≡ 0
and_opposite v h = let e = and-not 16 v v h h in let s = and_self v in omega (arith, e, s)

pub or_opposite : (v : ℕ) → v < 65536 → bit_or (65535 - v) v ≡ 65535
or_opposite v h = let e = and_opposite v h in let s = or_add_and (65535 - v) v in omega (arith, e, s)

pub and_opposite_r : (v : ℕ) → v < 65536 → bit_and v (65535 - v) ≡ 0
and_opposite_r v h = and_comm v (65535 - v) ∙ and_opposite v h

pub or_opposite_r : (v : ℕ) → v < 65536 → bit_or v (65535 - v) ≡ 65535
or_opposite_r v h = or_comm v (65535 - v) ∙ or_opposite v h

pub ruleset opposite_laws = (and_opposite, or_opposite, and_opposite_r, or_opposite_r)

-- what a word's mask keeps, or with others joined
pub and_part_l : (v w : ℕ) → bit_and (bit_and v w) v ≡ bit_and v w
and_part_l v w = and_comm (bit_and v w) v ∙ sym (and_assoc w v v) ∙ ap (λ (n : ℕ). bit_and n w) (and_self v)

pub and_part_r : (v w : ℕ) → bit_and (bit_and v w) w ≡ bit_and v w
and_part_r v w = and_assoc w v w ∙ ap (bit_and v) (and_self w)

pub or_part_r : (v w : ℕ) → bit_and w (bit_or v w) ≡ w
or_part_r v w = and_comm w (bit_or v w) ∙ and_or_self w v

pub or_part_l : (v w : ℕ) → bit_and v (bit_or v w) ≡ v
or_part_l v w = ap (bit_and v) (or_comm v w) ∙ or_part_r w v

pub ruleset part_laws = (and_self, and_part_l, and_part_r, or_part_l, or_part_r)

-- to change the same bits twice changes nothing
pub xor_twice : (v w : ℕ) → bit_xor v (bit_xor v w) ≡ w
xor_twice v w = sym (xor_assoc v v w) ∙ ap (λ (n : ℕ). bit_xor n w) (xor_self v) ∙ xor_zero_l w

pub or_and_sum : (x y : ℕ) → cut (bit_or x y + bit_and x y) ≡ cut (x + y)
or_and_sum x y = ap cut (or_add_and x y)

pub xor_and_sum : (x y : ℕ) → cut (bit_xor x y + cut (bit_and x y * 2 ^ 1)) ≡ cut (x + y)
xor_and_sum x y = let e = xor_add_and x y in omega (arith, e)

pub ruleset rebuilt_laws = (or_and_sum, xor_and_sum)
