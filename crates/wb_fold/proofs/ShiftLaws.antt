-- The shifts of the ALU, put together from parts that share no bit.
use Rattle.std.proofs.Common.{◌≡◌, ℕ, ◌+◌, ◌-◌, ◌*◌, ◌/◌, ◌%◌, ◌<◌, ◌^◌, Bool, true, false, arith, refl, sym, ap, ◌∙◌, subst, add-zero, bit_or, lit<}
use Rattle.std.proofs.lemmas.Nat.{or_shifted, mod-pow-add, shr_high, mod_low, pow_pos}
use Rattle.wb_term.specs.Numbers.{bit, cut}

pub sign_alone_is : (v : ℕ) → v < 65536 → cut (v / 32768 * 32768) ≡ v / 32768 * 32768
sign_alone_is v h = omega arith

pub halved_is : (v : ℕ) → v < 65536 → bit_or (v / 32768 * 32768) (v / 2) ≡ v / 32768 * 32768 + v / 2
halved_is v h = or_shifted (v / 32768) 15 (v / 2) (omega arith)

-- a word shifted to the left keeps its low bits above the new ones
cut_shifted : (v k b : ℕ) → k < 16 → b < 2 ^ k → cut (v * 2 ^ k + b) ≡ (v % 2 ^ (16 - k)) * 2 ^ k + b
cut_shifted v k b h l =
    let n = v * 2 ^ k + b in
    let sixteen : (16 - k) + k ≡ 16 = omega arith in
    let split : n % 2 ^ 16 ≡ (n / 2 ^ k % 2 ^ (16 - k)) * 2 ^ k + n % 2 ^ k =
    subst (λ (m : ℕ). n % 2 ^ m ≡ (n / 2 ^ k % 2 ^ (16 - k)) * 2 ^ k + n % 2 ^ k) sixteen (mod-pow-add n (16 - k) k) in
    split ∙ rw (shr_high v k b l, mod_low v k b l) refl

-- the low bits of a shifted word are free for others
low_free : (v k b : ℕ) → k < 16 → b < 2 ^ k → bit_or (cut (v * 2 ^ k)) b ≡ cut (v * 2 ^ k + b)
low_free v k b h l =
    let shifted : cut (v * 2 ^ k) ≡ (v % 2 ^ (16 - k)) * 2 ^ k =
    ap cut (sym (add-zero (v * 2 ^ k))) ∙ cut_shifted v k 0 h (pow_pos k) ∙ add-zero ((v % 2 ^ (16 - k)) * 2 ^ k) in
    ap (λ (n : ℕ). bit_or n b) shifted ∙ or_shifted (v % 2 ^ (16 - k)) k b l ∙ sym (cut_shifted v k b h l)

pub doubled_is : (v : ℕ) (c : Bool) → bit_or (cut (v * 2)) (bit c) ≡ cut (v * 2 + bit c)
doubled_is v c = low_free v 1 (bit c) (lit< tt) (bit-lt c) where
  bit-lt : (c : Bool) → bit c < 2
  bit-lt true = lit< tt
  bit-lt false = lit< tt

pub filled_is : (v k n : ℕ) → k < 16 → n + 1 ≡ 2 ^ k → bit_or (cut (v * 2 ^ k)) n ≡ cut (v * 2 ^ k + n)
filled_is v k n h e = low_free v k n h (omega (arith, e))

pub exchanged_is : (v : ℕ) → v < 65536 → bit_or (cut (v * 256)) (v / 256) ≡ v % 256 * 256 + v / 256
exchanged_is v h =
    let shifted : cut (v * 256) ≡ v % 256 * 256 = omega arith in
    ap (λ (n : ℕ). bit_or n (v / 256)) shifted ∙ or_shifted (v % 256) 8 (v / 256) (omega arith)
