-- The laws of one bit of a word.
use Rattle.std.proofs.Common.{◌≡◌, ℕ, zero, suc, ◌+◌, ◌-◌, ◌*◌, ◌/◌, ◌%◌, ◌≤◌, ◌<◌, ◌^◌, ◌==◌, ◌&&◌, ◌||◌, not, min, max, false, refl, sym, ap, ◌∙◌, arith, bit_and, bit_or, bit_xor, add-zero}
use Rattle.std.specs.Bool.{beq}
use Rattle.std.specs.Int.{bit_at, w16}
use Rattle.std.proofs.lemmas.Nat.{shr-shr, pow_pos}
use Rattle.std.proofs.lemmas.Nat.Bits.{bit_at_and, bit_at_or, bit_at_xor, bit_at_not, bit_at-lt, bit_at_above, bit_at_cat_low, bit_at_cat_high, bit_at-zero}
use Rattle.wb_term.specs.Numbers.{cut}
use Rattle.wb_known.specs.Bits.{bit_of}

both_set : (a b : ℕ) → a < 2 → b < 2 → (min a b == 1) ≡ ((a == 1) && (b == 1))
both_set zero zero h k = refl
both_set zero (suc zero) h k = refl
both_set (suc zero) zero h k = refl
both_set (suc zero) (suc zero) h k = refl
both_set (suc (suc a)) b h k = absurd (omega arith)
both_set zero (suc (suc b)) h k = absurd (omega arith)
both_set (suc zero) (suc (suc b)) h k = absurd (omega arith)

one_set : (a b : ℕ) → a < 2 → b < 2 → (max a b == 1) ≡ ((a == 1) || (b == 1))
one_set zero zero h k = refl
one_set zero (suc zero) h k = refl
one_set (suc zero) zero h k = refl
one_set (suc zero) (suc zero) h k = refl
one_set (suc (suc a)) b h k = absurd (omega arith)
one_set zero (suc (suc b)) h k = absurd (omega arith)
one_set (suc zero) (suc (suc b)) h k = absurd (omega arith)

odd_set : (a b : ℕ) → a < 2 → b < 2 → ((a + b) % 2 == 1) ≡ not (beq (a == 1) (b == 1))
odd_set zero zero h k = refl
odd_set zero (suc zero) h k = refl
odd_set (suc zero) zero h k = refl
odd_set (suc zero) (suc zero) h k = refl
odd_set (suc (suc a)) b h k = absurd (omega arith)
odd_set zero (suc (suc b)) h k = absurd (omega arith)
odd_set (suc zero) (suc (suc b)) h k = absurd (omega arith)

turned : (a : ℕ) → a < 2 → (1 - a == 1) ≡ not (a == 1)
turned zero h = refl
turned (suc zero) h = refl
turned (suc (suc a)) h = absurd (omega arith)

pub bit_of_and : (v w m : ℕ) → bit_of (bit_and v w) m ≡ (bit_of v m && bit_of w m)
bit_of_and v w m = ap (λ (n : ℕ). n == 1) (bit_at_and v w m) ∙ both_set _ _ (bit_at-lt v m) (bit_at-lt w m)

pub bit_of_or : (v w m : ℕ) → bit_of (bit_or v w) m ≡ (bit_of v m || bit_of w m)
bit_of_or v w m = ap (λ (n : ℕ). n == 1) (bit_at_or v w m) ∙ one_set _ _ (bit_at-lt v m) (bit_at-lt w m)

pub bit_of_xor : (v w m : ℕ) → bit_of (bit_xor v w) m ≡ not (beq (bit_of v m) (bit_of w m))
bit_of_xor v w m = ap (λ (n : ℕ). n == 1) (bit_at_xor v w m) ∙ odd_set _ _ (bit_at-lt v m) (bit_at-lt w m)

pub bit_of_not : (v m : ℕ) → v < 65536 → m < 16 → bit_of (65535 - v) m ≡ not (bit_of v m)
bit_of_not v m h k = ap (λ (n : ℕ). n == 1) (bit_at_not w16 v m h k) ∙ turned _ (bit_at-lt v m)

pub bit_of_past : (v m : ℕ) → v < 65536 → 16 ≤ m → bit_of v m ≡ false
bit_of_past v m h k = ap (λ (n : ℕ). n == 1) (bit_at_above v 16 m h k)

pub bit_of_byte : (v m : ℕ) → v < 256 → 8 ≤ m → bit_of v m ≡ false
bit_of_byte v m h k = ap (λ (n : ℕ). n == 1) (bit_at_above v 8 m h k)

pub bit_of_shr : (v k m : ℕ) → bit_of (v / 2 ^ k) m ≡ bit_of v (k + m)
bit_of_shr v k m = ap (λ (n : ℕ). n % 2 == 1) (shr-shr v k m)

-- the low 16 bits are those of the number
bit_at_cut : (n m : ℕ) → m < 16 → bit_at (cut n) m ≡ bit_at n m
bit_at_cut n m h =
    let whole : n / 2 ^ 16 * 2 ^ 16 + n % 2 ^ 16 ≡ n = omega arith in
    sym (bit_at_cat_low (n / 2 ^ 16) 16 (n % 2 ^ 16) m h) ∙ ap (λ (k : ℕ). bit_at k m) whole

pub bit_of_shl_low : (v k m : ℕ) → m < k → m < 16 → bit_of (cut (v * 2 ^ k)) m ≡ false
bit_of_shl_low v k m h l = ap (λ (n : ℕ). n == 1)
    (bit_at_cut (v * 2 ^ k) m l ∙ ap (λ (n : ℕ). bit_at n m) (sym (add-zero (v * 2 ^ k))) ∙ bit_at_cat_low v k 0 m h ∙ bit_at-zero m)

pub bit_of_shl_high : (v k m : ℕ) → k ≤ m → m < 16 → bit_of (cut (v * 2 ^ k)) m ≡ bit_of v (m - k)
bit_of_shl_high v k m h l = ap (λ (n : ℕ). n == 1)
    (bit_at_cut (v * 2 ^ k) m l ∙ ap (λ (n : ℕ). bit_at n m) (sym (add-zero (v * 2 ^ k))) ∙ bit_at_cat_high v k 0 m (pow_pos k) h)

pub ruleset source_laws = (bit_of_and, bit_of_or, bit_of_xor, bit_of_not, bit_of_past, bit_of_byte, bit_of_shr, bit_of_shl_low, bit_of_shl_high)
