-- What moving the entries of a word does to its number.
use Rattle.std.proofs.Common.{Bool, ◌==◌, ◌≡◌, ◌≢◌, ℕ, ◌+◌, ◌-◌, ◌*◌, ◌/◌, ◌%◌, ◌^◌, ◌<◌, ◌≤◌, List, length, set, sym, ◌∙◌, ap, subst, inl, inr, arith, get_or-set_other, get_or-set_same, below_more}
use Rattle.std.proofs.Math.Nat.{div-div-eq-div-mul, div-le_self, add_comm, pow-le-pow_right}
use Rattle.std.proofs.lemmas.Bool.{cases_lt}
use Rattle.std.proofs.lemmas.Nat.{pow-add, pow_pos}
use Rattle.std.proofs.lemmas.Nat.Bits.{bit_at-lt, bit_at_above, bit_at-zero, bit_at_cat_low, bit_at_cat_high, same_from_bits}
use Rattle.std.specs.Int.{bit_at}
use Rattle.wb_gate.specs.Circuit.{Assignment}
use Rattle.wb_term.specs.Numbers.{bit, cut}
use Rattle.wb_equal.specs.declared.entries.Entry.{Entry}
use Rattle.wb_equal.specs.declared.entries.Entry.TheVariants.{T}
use Rattle.wb_equal.specs.Entries.{entry_value}
use Rattle.wb_blast.specs.Words.{number, entry_at}
use Rattle.wb_blast.proofs.Bits.{number_bit, number_above, bit_of_bit}
use Rattle.wb_blast.proofs.Sums.{number_lt}

-- a number below 65536 is what its bits say
pub number_from_bits : (v : Assignment) (es : List Entry) (n : ℕ) → length es ≡ 16 → n < 65536 →
    ((k : ℕ) → k < 16 → bit (entry_value v (entry_at es k)) ≡ bit_at n k) → number v es ≡ n
number_from_bits v es n in_es small each = same_from_bits (number v es) n (λ i. elim (cases_lt i 16) [
  | inl h ↦ number_bit v es i (omega (arith, h, in_es)) ∙ each i h
  | inr h ↦ number_above v es i (omega (arith, h, in_es)) ∙ sym (bit_at_above n 16 i small h)
])

pub bits_more : (v : Assignment) (done : List Entry) (n : ℕ) (e : Entry) (at : ℕ) → at < length done → bit (entry_value v e) ≡ bit_at n at →
    ((k : ℕ) → k < at → bit (entry_value v (entry_at done k)) ≡ bit_at n k) → (k : ℕ) → k < at + 1 → bit (entry_value v (entry_at (set done at e) k)) ≡ bit_at n k
bits_more v done n e at within is each = below_more _ at
    (λ k h. let ne : k ≢ at = omega (arith, h) in ap (λ (x : Entry). bit (entry_value v x)) (get_or-set_other done at k e T ne) ∙ each k h)
    (ap (λ (x : Entry). bit (entry_value v x)) (get_or-set_same done at e T within) ∙ is)

pub shifted_small : (n m : ℕ) → cut (n * 2 ^ m) < 65536
shifted_small n m = omega arith

pub halves_small : (v : Assignment) (es : List Entry) (m : ℕ) → length es ≡ 16 → number v es / 2 ^ m < 65536
halves_small v es m h =
    let small : number v es < 65536 = subst (λ n. number v es < 2 ^ n) h (number_lt v es) in
    let less = div-le_self (number v es) (2 ^ m) in
    omega (arith, small, less)

-- the low 16 bits are those of the number
cut_bit : (n k : ℕ) → k < 16 → bit_at (cut n) k ≡ bit_at n k
cut_bit n k h =
    let split : n / 65536 * 65536 + n % 65536 ≡ n = omega arith in
    sym (bit_at_cat_low (n / 65536) 16 (n % 65536) k h) ∙ ap (λ x. bit_at x k) split

pub left_low : (n m k : ℕ) → k < 16 → k < m → 0 ≡ bit_at (cut (n * 2 ^ m)) k
left_low n m k within h =
    let e : n * 2 ^ m + 0 ≡ n * 2 ^ m = omega arith in
    sym (cut_bit (n * 2 ^ m) k within ∙ ap (λ x. bit_at x k) (sym e) ∙ bit_at_cat_low n m 0 k h ∙ bit_at-zero k)

pub left_high : (v : Assignment) (es : List Entry) (m k : ℕ) → length es ≡ 16 → k < 16 → m ≤ k →
    bit (entry_value v (entry_at es (k - m))) ≡ bit_at (cut (number v es * 2 ^ m)) k
left_high v es m k in_es within h =
    let n = number v es in
    let e : n * 2 ^ m + 0 ≡ n * 2 ^ m = omega arith in
    sym (cut_bit (n * 2 ^ m) k within ∙ ap (λ x. bit_at x k) (sym e) ∙ bit_at_cat_high n m 0 k (pow_pos m) h
    ∙ number_bit v es (k - m) (omega (arith, in_es, within)))

halves : (n m k : ℕ) → bit_at (n / 2 ^ m) k ≡ bit_at n (k + m)
halves n m k = ap (λ x. x % 2) (div-div-eq-div-mul n (2 ^ m) (2 ^ k) ∙ ap (λ p. n / p) (sym (pow-add 2 m k) ∙ ap (λ e. 2 ^ e) (add_comm m k)))

pub right_low : (v : Assignment) (es : List Entry) (m k : ℕ) → length es ≡ 16 → k + m < 16 →
    bit (entry_value v (entry_at es (k + m))) ≡ bit_at (number v es / 2 ^ m) k
right_low v es m k in_es h = sym (halves (number v es) m k ∙ number_bit v es (k + m) (omega (arith, in_es, h)))

pub right_high : (v : Assignment) (es : List Entry) (m k : ℕ) → length es ≡ 16 → 16 ≤ k + m → 0 ≡ bit_at (number v es / 2 ^ m) k
right_high v es m k in_es h = sym (halves (number v es) m k ∙ number_above v es (k + m) (omega (arith, in_es, h)))

-- a word of few bits is small
pub word_small : (word count : ℕ) → count ≤ 16 → word < 2 ^ count → word < 65536
word_small word count few small =
    let more : 2 ^ count ≤ 2 ^ 16 = pow-le-pow_right {n = 2} (omega arith) few in
    omega (arith, small, more)

pub given_bit : (word k : ℕ) (b : Bool) → b ≡ (bit_at word k == 1) → bit b ≡ bit_at word k
given_bit word k b e = ap bit e ∙ bit_of_bit (bit_at word k) (bit_at-lt word k)
