-- The laws of one mask after another, and of two put together.
use Rattle.std.proofs.Common.{◌≡◌, ℕ, arith, bit_and, bit_or}
use Rattle.std.proofs.lemmas.Nat.{and_assoc}
use Rattle.std.proofs.lemmas.Nat.Bits.{bit_at_and, bit_at_or, same_from_bits}

-- what two masks leave of a word, put together, is what both leave
pub two_masks : (v p q : ℕ) → bit_or (bit_and v p) (bit_and v q) ≡ bit_and v (bit_or p q)
two_masks v p q = same_from_bits _ _ (λ i.
    let a = bit_at_or (bit_and v p) (bit_and v q) i in let b = bit_at_and v p i in let c = bit_at_and v q i in
    let d = bit_at_and v (bit_or p q) i in let e = bit_at_or p q i in
    omega (arith, a, b, c, d, e))

-- one mask after another
pub masks_merge : (v p q : ℕ) → bit_and (bit_and v p) q ≡ bit_and v (bit_and p q)
masks_merge v p q = and_assoc q v p
