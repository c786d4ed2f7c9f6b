-- What moving the diagrams of a word does to its number.
use Rattle.std.proofs.Common.{◌==◌, ◌≡◌, ℕ, ◌+◌, ◌-◌, ◌*◌, ◌/◌, ◌%◌, ◌^◌, ◌<◌, ◌≤◌, Bool, true, false, List, length, sym, ◌∙◌, ap, arith}
use Rattle.std.proofs.Math.Nat.{div-div-eq-div-mul, div-le_self, add_comm}
use Rattle.std.proofs.lemmas.Nat.{pow-add, pow_pos}
use Rattle.std.proofs.lemmas.Nat.Bits.{bit_at-zero, bit_at_cat_low, bit_at_cat_high}
use Rattle.std.specs.Int.{bit_at}
use Rattle.wb_diagram.specs.declared.nodes.Diagram.{Diagram}
use Rattle.wb_diagram.specs.Forest.{Forest}
use Rattle.wb_diagram.specs.Values.{value}
use Rattle.wb_vector.specs.Vectors.{bit, number, diagram_at}
use Rattle.wb_vector.proofs.Words.{number_small}
use Rattle.wb_vector.proofs.Bits.{number_bit, number_above}

is_bit : (b : Bool) (n : ℕ) → n ≡ bit b → b ≡ (n == 1)
is_bit true n e = sym (ap (λ (m : ℕ). m == 1) e)
is_bit false n e = sym (ap (λ (m : ℕ). m == 1) e)

pub picked_bit : (v : ℕ → Bool) (f : Forest) (ds : List Diagram) (k : ℕ) → length ds ≡ 16 → k < 16 → value v f (diagram_at ds k) ≡ (bit_at (number v f ds) k == 1)
picked_bit v f ds k in_ds h = is_bit (value v f (diagram_at ds k)) (bit_at (number v f ds) k) (number_bit v f ds k (omega (arith, in_ds, h)))

pub shifted_small : (n m : ℕ) → n * 2 ^ m % 65536 < 65536
shifted_small n m = omega arith

pub halves_small : (v : ℕ → Bool) (f : Forest) (ds : List Diagram) (m : ℕ) → length ds ≡ 16 → number v f ds / 2 ^ m < 65536
halves_small v f ds m h =
    let small = number_small v f ds h in
    let less = div-le_self (number v f ds) (2 ^ m) in
    omega (arith, small, less)

-- the low 16 bits are those of the number
cut_bit : (n k : ℕ) → k < 16 → bit_at (n % 65536) k ≡ bit_at n k
cut_bit n k h =
    let split : n / 65536 * 65536 + n % 65536 ≡ n = omega arith in
    sym (bit_at_cat_low (n / 65536) 16 (n % 65536) k h) ∙ ap (λ x. bit_at x k) split

pub left_low : (n m k : ℕ) → k < 16 → k < m → false ≡ (bit_at (n * 2 ^ m % 65536) k == 1)
left_low n m k within h =
    let e : n * 2 ^ m + 0 ≡ n * 2 ^ m = omega arith in
    is_bit false (bit_at (n * 2 ^ m % 65536) k) (cut_bit (n * 2 ^ m) k within ∙ ap (λ x. bit_at x k) (sym e) ∙ bit_at_cat_low n m 0 k h ∙ bit_at-zero k)

pub left_high : (v : ℕ → Bool) (f : Forest) (ds : List Diagram) (m k : ℕ) → length ds ≡ 16 → k < 16 → m ≤ k →
    value v f (diagram_at ds (k - m)) ≡ (bit_at (number v f ds * 2 ^ m % 65536) k == 1)
left_high v f ds m k in_ds within h =
    let n = number v f ds in
    let e : n * 2 ^ m + 0 ≡ n * 2 ^ m = omega arith in
    is_bit (value v f (diagram_at ds (k - m))) (bit_at (n * 2 ^ m % 65536) k)
    (cut_bit (n * 2 ^ m) k within ∙ ap (λ x. bit_at x k) (sym e) ∙ bit_at_cat_high n m 0 k (pow_pos m) h
    ∙ number_bit v f ds (k - m) (omega (arith, in_ds, within)))

halves : (n m k : ℕ) → bit_at (n / 2 ^ m) k ≡ bit_at n (k + m)
halves n m k = ap (λ x. x % 2) (div-div-eq-div-mul n (2 ^ m) (2 ^ k) ∙ ap (λ p. n / p) (sym (pow-add 2 m k) ∙ ap (λ e. 2 ^ e) (add_comm m k)))

pub right_low : (v : ℕ → Bool) (f : Forest) (ds : List Diagram) (m k : ℕ) → length ds ≡ 16 → k + m < 16 →
    value v f (diagram_at ds (k + m)) ≡ (bit_at (number v f ds / 2 ^ m) k == 1)
right_low v f ds m k in_ds h =
    is_bit (value v f (diagram_at ds (k + m))) (bit_at (number v f ds / 2 ^ m) k) (halves (number v f ds) m k ∙ number_bit v f ds (k + m) (omega (arith, in_ds, h)))

pub right_high : (v : ℕ → Bool) (f : Forest) (ds : List Diagram) (m k : ℕ) → length ds ≡ 16 → 16 ≤ k + m → false ≡ (bit_at (number v f ds / 2 ^ m) k == 1)
right_high v f ds m k in_ds h =
    is_bit false (bit_at (number v f ds / 2 ^ m) k) (halves (number v f ds) m k ∙ number_above v f ds (k + m) (omega (arith, in_ds, h)))
