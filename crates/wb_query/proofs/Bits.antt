-- A bit that is set.
use Rattle.std.proofs.Common.{◌≡◌, ◌≢◌, ◌==◌, ℕ, ◌*◌, ◌%◌, ◌^◌, ◌<◌, ◌≤◌, Bool, true, false, if◌then◌else◌, bit_or, max, refl, sym, ◌∙◌, ap, ap₂, inl, inr, arith}
use Rattle.std.proofs.Math.Nat.{pow-le-pow_right}
use Rattle.std.proofs.lemmas.Bool.{cases_eq, ne_eqb}
use Rattle.std.proofs.lemmas.Nat.Bits.{bit_at_or, bit_at-pow_same, bit_at-pow_other, bit_at-lt}
use Rattle.std.specs.Int.{bit_at}

self_eqb : (n : ℕ) → (n == n) ≡ true
self_eqb n = grind arith

most_one : (n : ℕ) → n < 2 → max n 1 ≡ 1
most_one n h = omega (arith, h)

most_none : (n : ℕ) → max n 0 ≡ n
most_none n = omega arith

bit_set : (n b k : ℕ) → bit_at (bit_or n (2 ^ b)) k ≡ (if k == b then 1 else bit_at n k)
bit_set n b k = elim (cases_eq k b) [
  | inl e ↦
      ap (bit_at (bit_or n (2 ^ b))) e ∙ bit_at_or n (2 ^ b) b ∙ ap (max (bit_at n b)) (bit_at-pow_same b) ∙ most_one (bit_at n b) (bit_at-lt n b)
      ∙ sym (ap (λ i. if i == b then 1 else bit_at n i) e ∙ ap (λ (t : Bool). if t then 1 else bit_at n b) (self_eqb b))
  | inr ne ↦
      bit_at_or n (2 ^ b) k ∙ ap (max (bit_at n k)) (bit_at-pow_other b k ne) ∙ most_none (bit_at n k)
      ∙ sym (ap (λ (t : Bool). if t then 1 else bit_at n k) (ne_eqb k b ne))
]

pub bit_set_byte : (n b : ℕ) → b < 8 → (k : ℕ) → bit_at (bit_or n (1 * 2 ^ b % 256)) k ≡ (if k == b then 1 else bit_at n k)
bit_set_byte n b h k =
    let few : 2 ^ b ≤ 2 ^ 7 = (let less : b ≤ 7 = omega (arith, h) in pow-le-pow_right {n = 2} (omega arith) less) in
    ap (λ m. bit_at (bit_or n m) k) (omega (arith, few)) ∙ bit_set n b k

pub bit_set_word : (n b : ℕ) → b < 16 → (k : ℕ) → bit_at (bit_or n (1 * 2 ^ b % 65536)) k ≡ (if k == b then 1 else bit_at n k)
bit_set_word n b h k =
    let few : 2 ^ b ≤ 2 ^ 15 = (let less : b ≤ 15 = omega (arith, h) in pow-le-pow_right {n = 2} (omega arith) less) in
    ap (λ m. bit_at (bit_or n m) k) (omega (arith, few)) ∙ bit_set n b k
