-- Numbers of 32 bits, and twice the signed product of two words.
use Rattle.std.proofs.Common.{◌≡◌, ℕ, suc, zero, ◌+◌, ◌-◌, ◌*◌, ◌%◌, ◌^◌, ◌<◌, ◌≤◌, Bool, true, false, if◌then◌else◌, nat_lt, refl, ◌∙◌, ap, ap₂, inl, inr, arith}
use Rattle.std.specs.Prelude.{unsigned_abs}
use Rattle.std.proofs.Math.IntN.{ℤ, pos, negsuc, ◌+ℤ◌, ◌*ℤ◌, ◌-ℤ◌, neg_ℤ, pos-*ℤ-pos, negsuc-*ℤ-pos, pos-*ℤ-negsuc, negsuc-*ℤ-negsuc}
use Rattle.std.specs.Int.{int_rem_euclid}
use Rattle.std.proofs.lemmas.Int.{int_rem_euclid_is, ints}
use Rattle.std.proofs.lemmas.Bool.{cases_lt, lt-ltb, le-ltb}
use Rattle.wb_term.specs.Numbers.{bit, cut, product, signed}
use Rattle.wb_blast.specs.Doubles.{extended, cut_double}

-- the sum of the low words and its carry
pub sum_of_halves : (a b c h k s t : ℕ) (e : Bool) → a < 65536 → b < 65536 → c ≤ 1 → s ≡ cut (a + b + c) → e ≡ nat_lt 65535 (a + b + c) → t ≡ cut (h + k + bit e) →
    s + 65536 * t ≡ cut_double ((a + 65536 * h) + (b + 65536 * k) + c)
sum_of_halves a b c h k s t e small_a small_b few is_s is_e is_t = elim (cases_lt 65535 (a + b + c)) [
  | inl over ↦ (let one : bit e ≡ 1 = ap bit (is_e ∙ lt-ltb _ _ over) in omega (arith, small_a, small_b, few, is_s, is_t, one, over))
  | inr under ↦ (let none : bit e ≡ 0 = ap bit (is_e ∙ le-ltb _ _ under) in omega (arith, small_a, small_b, few, is_s, is_t, none, under))
]

added_multiple : (A A2 R : ℕ) (b : Bool) → A2 ≡ A + bit b * R → cut_double (cut_double A + (if b then cut_double R else 0)) ≡ cut_double A2
added_multiple A A2 R true e = omega (arith, e)
added_multiple A A2 R false e = omega (arith, e)

multiple_more : (E Y P : ℕ) (b : Bool) → E * (Y + bit b * P) ≡ E * Y + bit b * (P * E)
multiple_more E Y P true = grind arith
multiple_more E Y P false = grind arith

pub row_added : (E Y P : ℕ) (b : Bool) → cut_double (cut_double (E * Y) + (if b then cut_double (P * E) else 0)) ≡ cut_double (E * (Y + bit b * P))
row_added E Y P b = added_multiple (E * Y) (E * (Y + bit b * P)) (P * E) b (multiple_more E Y P b)

pub row_twice : (E P Q : ℕ) → Q ≡ P * 2 → cut_double (2 * cut_double (P * E)) ≡ cut_double (Q * E)
row_twice E P Q q =
    let e : Q * E ≡ 2 * (P * E) = rw q (grind arith) in
    omega (arith, e)

-- the four signs
rest_of : (z : ℤ) (k m : ℕ) → z +ℤ pos (k * 2 ^ 32) ≡ pos m → unsigned_abs (int_rem_euclid z (pos (2 ^ 32))) ≡ m % 2 ^ 32
rest_of z k m e = ap unsigned_abs (int_rem_euclid_is z (pos (2 ^ 32)) (2 ^ 32) k m (omega arith) refl e)

minus_twice : (a : ℕ) → neg_ℤ (pos a) *ℤ pos 2 ≡ neg_ℤ (pos (a * 2))
minus_twice zero = refl
minus_twice (suc a) = negsuc-*ℤ-pos a 2

minus_plus : (a b m : ℕ) → b ≡ m + a → neg_ℤ (pos a) +ℤ pos b ≡ pos m
minus_plus zero b m e = ap pos (omega (arith, e))
minus_plus (suc a) b m e = omega (arith, ints, e)

plus_plus : (x y k m : ℕ) → x * y * 2 + k ≡ m → (pos x *ℤ pos y *ℤ pos 2) +ℤ pos k ≡ pos m
plus_plus x y k m e = ap (λ z. (z *ℤ pos 2) +ℤ pos k) (pos-*ℤ-pos x y) ∙ ap (λ z. z +ℤ pos k) (pos-*ℤ-pos (x * y) 2) ∙ ap pos e

minus_times : (a k m : ℕ) → k ≡ m + a * 2 → (neg_ℤ (pos a) *ℤ pos 2) +ℤ pos k ≡ pos m
minus_times a k m e = ap (λ z. z +ℤ pos k) (minus_twice a) ∙ minus_plus (a * 2) k m e

minus_first : (w y k m : ℕ) → k ≡ m + suc w * y * 2 → (negsuc w *ℤ pos y *ℤ pos 2) +ℤ pos k ≡ pos m
minus_first w y k m e = ap (λ z. (z *ℤ pos 2) +ℤ pos k) (negsuc-*ℤ-pos w y) ∙ minus_times (suc w * y) k m e

minus_second : (x u k m : ℕ) → k ≡ m + x * suc u * 2 → (pos x *ℤ negsuc u *ℤ pos 2) +ℤ pos k ≡ pos m
minus_second x u k m e = ap (λ z. (z *ℤ pos 2) +ℤ pos k) (pos-*ℤ-negsuc x u) ∙ minus_times (x * suc u) k m e

minus_both : (w u k m : ℕ) → suc w * suc u * 2 + k ≡ m → (negsuc w *ℤ negsuc u *ℤ pos 2) +ℤ pos k ≡ pos m
minus_both w u k m e = ap (λ z. (z *ℤ pos 2) +ℤ pos k) (negsuc-*ℤ-negsuc w u) ∙ plus_plus (suc w) (suc u) k m e

signed_small : (n : ℕ) → n < 32768 → signed n ≡ pos n
signed_small n h = ap (λ b. if b then pos n else (pos n -ℤ pos 65536)) (lt-ltb _ _ h)

signed_great : (n w : ℕ) → 32768 ≤ n → n + suc w ≡ 65536 → signed n ≡ negsuc w
signed_great n w h e = ap (λ b. if b then pos n else (pos n -ℤ pos 65536)) (le-ltb _ _ h) ∙ omega (arith, ints, e)

pub extended_small : (n : ℕ) → n < 32768 → extended n ≡ n
extended_small n h = ap (λ b. if b then n else n + 4294901760) (lt-ltb _ _ h)

pub extended_great : (n : ℕ) → 32768 ≤ n → extended n ≡ n + 4294901760
extended_great n h = ap (λ b. if b then n else n + 4294901760) (le-ltb _ _ h)

-- the sum of all rows, the last subtracted, without the cuts
exact_plus : (x l : ℕ) → x * l * 2 + 0 * 2 ^ 32 ≡ 2 * x * l
exact_plus x l = grind arith

exact_first : (x w l : ℕ) → x + suc w ≡ 65536 → (2 * l) * 2 ^ 32 ≡ 2 * (x + 4294901760) * l + suc w * l * 2
exact_first x w l e = let p = ap (λ n. n * l) e in grind (arith, p)

exact_second : (x u l m : ℕ) → l + suc u ≡ 32768 → m + 65536 * x ≡ 2 * x * l + 4294967296 → 1 * 2 ^ 32 ≡ m + x * suc u * 2
exact_second x u l m f g = let p = ap (λ n. x * n) f in grind (arith, p, g)

exact_both : (x w u l m : ℕ) → x + suc w ≡ 65536 → l + suc u ≡ 32768 → m + 65536 * x ≡ 2 * (x + 4294901760) * l + 4294967296 →
    suc w * suc u * 2 + (2 * l) * 2 ^ 32 ≡ m
exact_both x w u l m e f g = let p = ap (λ n. n * l) e in let q = ap (λ n. suc w * n) f in grind (arith, p, q, g, e)

product_is : (x y : ℕ) (s t : ℤ) (k m : ℕ) → signed x ≡ s → signed y ≡ t → (s *ℤ t *ℤ pos 2) +ℤ pos (k * 2 ^ 32) ≡ pos m → product x y ≡ m % 2 ^ 32
unfolding product
product_is x y s t k m e f g = ap₂ (λ a b. unsigned_abs (int_rem_euclid (a *ℤ b *ℤ pos 2) (pos (2 ^ 32)))) e f ∙ rest_of (s *ℤ t *ℤ pos 2) k m g

-- the rows below the sign's, and the sign's row
pub rows_total : (x y l S R : ℕ) (b : Bool) → x < 65536 → l < 32768 → y ≡ l + 32768 * bit b → S ≡ cut_double (2 * extended x * l) → R ≡ cut_double (32768 * (2 * extended x)) →
    cut_double (S + 4294967296 - (if b then R else 0)) ≡ product x y
rows_total x y l S R false small low is_y is_s is_r = elim (cases_lt x 32768) [
  | inl plus ↦
      (let same : 2 * extended x * l ≡ 2 * x * l = ap (λ n. 2 * n * l) (extended_small x plus) in
      let y_is : y ≡ l = omega (arith, is_y) in
      let prod : product x y ≡ (2 * x * l) % 2 ^ 32 = product_is x y (pos x) (pos l) 0 (2 * x * l) (signed_small x plus) (signed_small y (omega (arith, y_is, low)) ∙ ap pos y_is)
      (plus_plus x l (0 * 2 ^ 32) (2 * x * l) (exact_plus x l)) in
      omega (arith, is_s, same, prod))
  | inr minus ↦
      (let w = 65535 - x in
      let sum : x + suc w ≡ 65536 = omega (arith, small) in
      let same : 2 * extended x * l ≡ 2 * (x + 4294901760) * l = ap (λ n. 2 * n * l) (extended_great x minus) in
      let y_is : y ≡ l = omega (arith, is_y) in
      let prod : product x y ≡ (2 * (x + 4294901760) * l) % 2 ^ 32 = product_is x y (negsuc w) (pos l) (2 * l) (2 * (x + 4294901760) * l)
      (signed_great x w minus sum) (signed_small y (omega (arith, y_is, low)) ∙ ap pos y_is)
      (minus_first w l ((2 * l) * 2 ^ 32) (2 * (x + 4294901760) * l) (exact_first x w l sum)) in
      omega (arith, is_s, same, prod))
]
rows_total x y l S R true small low is_y is_s is_r = elim (cases_lt x 32768) [
  | inl plus ↦
      (let u = 32767 - l in
      let rest : l + suc u ≡ 32768 = omega (arith, low) in
      let y_is : y ≡ l + 32768 = omega (arith, is_y) in
      let same : 2 * extended x * l ≡ 2 * x * l = ap (λ n. 2 * n * l) (extended_small x plus) in
      let row : 32768 * (2 * extended x) ≡ 65536 * x = (let e = extended_small x plus in omega (arith, e)) in
      let m = 2 * x * l + 4294967296 - 65536 * x in
      let is_m : m + 65536 * x ≡ 2 * x * l + 4294967296 = omega (arith, plus) in
      let prod : product x y ≡ m % 2 ^ 32 = product_is x y (pos x) (negsuc u) 1 m (signed_small x plus) (signed_great y u (omega (arith, y_is)) (omega (arith, y_is, rest)))
      (minus_second x u (1 * 2 ^ 32) m (exact_second x u l m rest is_m)) in
      omega (arith, is_s, is_r, same, row, is_m, prod, plus))
  | inr minus ↦
      (let w = 65535 - x in
      let sum : x + suc w ≡ 65536 = omega (arith, small) in
      let u = 32767 - l in
      let rest : l + suc u ≡ 32768 = omega (arith, low) in
      let y_is : y ≡ l + 32768 = omega (arith, is_y) in
      let same : 2 * extended x * l ≡ 2 * (x + 4294901760) * l = ap (λ n. 2 * n * l) (extended_great x minus) in
      let row : 32768 * (2 * extended x) ≡ 65536 * x + 281470681743360 = (let e = extended_great x minus in omega (arith, e)) in
      let m = 2 * (x + 4294901760) * l + 4294967296 - 65536 * x in
      let is_m : m + 65536 * x ≡ 2 * (x + 4294901760) * l + 4294967296 = omega (arith, small) in
      let prod : product x y ≡ m % 2 ^ 32 = product_is x y (negsuc w) (negsuc u) (2 * l) m (signed_great x w minus sum) (signed_great y u (omega (arith, y_is)) (omega (arith, y_is, rest)))
      (minus_both w u ((2 * l) * 2 ^ 32) m (exact_both x w u l m sum rest is_m)) in
      omega (arith, is_s, is_r, same, row, is_m, prod, small))
]
