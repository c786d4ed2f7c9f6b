-- Signs of words, and the signed overflow of sums and differences.
use Rattle.std.proofs.Common.{◌≡◌, ℕ, ◌+◌, ◌-◌, ◌/◌, ◌%◌, ◌<◌, ◌≤◌, Bool, true, false, not, ◌&&◌, ◌||◌, eqb, ltb, ℤ, pos, arith, ap, sym, ◌∙◌, ◌⊎◌, inl, inr, lit<, refl}
use Rattle.std.specs.Prelude.{◌+ℤ◌, ◌-ℤ◌}
use Rattle.std.specs.Bool.{beq}
use Rattle.std.proofs.Math.Nat.{mod-eq_of_lt}
use Rattle.std.proofs.lemmas.Grind.{common_steps}
use Rattle.std.proofs.lemmas.Int.{ints}
use Rattle.std.proofs.lemmas.Bool.{lt-ltb, le-ltb, le-leb, lt-leb, cases_lt}
use Rattle.wb_alu.specs.Operation.{bit, cut, less, sign, signed, is_outside}

-- bit 15 tells whether a word is at least 32768
pub sign_is : (v : ℕ) → v < 65536 → eqb (v / 32768 % 2) 1 ≡ sign v
sign_is v h = grind (arith, common_steps)

pub top_bit_is : (v : ℕ) → v < 65536 → eqb (v / 32768 % 2) 1 ≡ eqb (v / 32768) 1
top_bit_is v h = let l : v / 32768 < 2 = omega arith in ap (λ (n : ℕ). eqb n 1) (mod-eq_of_lt l)

-- whether a difference of numbers is no signed number of 16 bits
outside_is : (s k : ℕ) → is_outside (pos s -ℤ pos k) ≡ (ltb (s + 32768) k || ltb (k + 32767) s)
outside_is s k = grind (arith, ints)

signed_low : (v : ℕ) → v < 32768 → signed v ≡ pos v -ℤ pos 0
signed_low v h = rw (lt-ltb v 32768 h) (omega (arith, ints))

signed_high : (v : ℕ) → 32768 ≤ v → signed v ≡ pos v -ℤ pos 65536
signed_high v h = rw (le-ltb v 32768 h) refl

sign_low : (v : ℕ) → v < 32768 → sign v ≡ false
sign_low v h = lt-leb 32768 v h

sign_high : (v : ℕ) → 32768 ≤ v → sign v ≡ true
sign_high v h = le-leb 32768 v h

-- the signs of a sum, where both words are below 32768, one of them, or none
sum_low : (s : ℕ) → s < 65536 → (not (beq false (sign (cut s))) && not (beq false (sign (cut s)))) ≡ (ltb (s + 32768) 0 || ltb 32767 s)
sum_low s h = rw (mod-eq_of_lt h) (grind (arith, common_steps))

sum_high : (s : ℕ) → 65536 ≤ s → s < 131072 → (not (beq true (sign (cut s))) && not (beq true (sign (cut s)))) ≡ (ltb (s + 32768) 131072 || ltb (131072 + 32767) s)
sum_high s h k = let e : cut s ≡ s - 65536 = omega arith in rw e (grind (arith, common_steps))

sum_mixed : (s : ℕ) → 32768 ≤ s → s < 98304 → false ≡ (ltb (s + 32768) 65536 || ltb (65536 + 32767) s)
sum_mixed s h k = grind (arith, common_steps)

-- the sum of a word below 32768 and one from there on never overflows
mixed_low_high : (d : Bool) → (not (beq false d) && not (beq true d)) ≡ false
mixed_low_high true = refl
mixed_low_high false = refl

mixed_high_low : (d : Bool) → (not (beq true d) && not (beq false d)) ≡ false
mixed_high_low true = refl
mixed_high_low false = refl

bit_lt : (c : Bool) → bit c < 2
bit_lt true = lit< tt
bit_lt false = lit< tt

gather_sum : (q p d a b : ℕ) → (pos q -ℤ pos a) +ℤ (pos p -ℤ pos b) +ℤ pos d ≡ pos (q + p + d) -ℤ pos (a + b)
gather_sum q p d a b = omega (arith, ints)

gather_difference : (q p d a b : ℕ) → (pos q -ℤ pos a) -ℤ (pos p -ℤ pos b) -ℤ pos d ≡ pos (q + b) -ℤ pos (a + (p + d))
gather_difference q p d a b = omega (arith, ints)

sum_signed : (q p d a b : ℕ) → signed q ≡ pos q -ℤ pos a → signed p ≡ pos p -ℤ pos b → signed q +ℤ signed p +ℤ pos d ≡ pos (q + p + d) -ℤ pos (a + b)
sum_signed q p d a b e f = ap (λ (z : ℤ). z +ℤ signed p +ℤ pos d) e ∙ ap (λ (z : ℤ). (pos q -ℤ pos a) +ℤ z +ℤ pos d) f ∙ gather_sum q p d a b

difference_signed : (q p d a b : ℕ) → signed q ≡ pos q -ℤ pos a → signed p ≡ pos p -ℤ pos b → signed q -ℤ signed p -ℤ pos d ≡ pos (q + b) -ℤ pos (a + (p + d))
difference_signed q p d a b e f = ap (λ (z : ℤ). z -ℤ signed p -ℤ pos d) e ∙ ap (λ (z : ℤ). (pos q -ℤ pos a) -ℤ z -ℤ pos d) f ∙ gather_difference q p d a b

-- what is left once the signs are known
settled : (told x y : Bool) (s k : ℕ) (z : ℤ) → told ≡ x → x ≡ y → y ≡ (ltb (s + 32768) k || ltb (k + 32767) s) → z ≡ pos s -ℤ pos k → told ≡ is_outside z
settled told x y s k z e f g i = e ∙ f ∙ g ∙ sym (ap is_outside i ∙ outside_is s k)

both_signs : (told : Bool → Bool → Bool) (q p : ℕ) (x y : Bool) → sign q ≡ x → sign p ≡ y → told (sign q) (sign p) ≡ told x y
both_signs told q p x y e f = ap (λ (b : Bool). told b (sign p)) e ∙ ap (λ (b : Bool). told x b) f

-- a sum overflows where its sign differs from both
pub sum_overflows : (q p : ℕ) (c : Bool) → q < 65536 → p < 65536 →
    (not (beq (sign q) (sign (cut (q + p + bit c)))) && not (beq (sign p) (sign (cut (q + p + bit c))))) ≡ is_outside (signed q +ℤ signed p +ℤ pos (bit c))
sum_overflows q p c h k = by (cases_lt q 32768) (cases_lt p 32768) where
  d : ℕ
  d = bit c

  small : d < 2
  small = bit_lt c

  s : ℕ
  s = q + p + d

  told : Bool → Bool → Bool
  told x y = not (beq x (sign (cut s))) && not (beq y (sign (cut s)))

  by : (q < 32768) ⊎ (32768 ≤ q) → (p < 32768) ⊎ (32768 ≤ p) → told (sign q) (sign p) ≡ is_outside (signed q +ℤ signed p +ℤ pos d)
  by (inl a) (inl b) = settled _ _ _ s 0 _ (both_signs told q p false false (sign_low q a) (sign_low p b)) refl
      (sum_low s (omega (arith, small, a, b))) (sum_signed q p d 0 0 (signed_low q a) (signed_low p b))
  by (inr a) (inr b) = settled _ _ _ s 131072 _ (both_signs told q p true true (sign_high q a) (sign_high p b)) refl
      (sum_high s (omega (arith, a, b)) (omega (arith, small, h, k))) (sum_signed q p d 65536 65536 (signed_high q a) (signed_high p b))
  by (inl a) (inr b) = settled _ _ _ s 65536 _ (both_signs told q p false true (sign_low q a) (sign_high p b)) (mixed_low_high (sign (cut s)))
      (sum_mixed s (omega (arith, b)) (omega (arith, small, a, k))) (sum_signed q p d 0 65536 (signed_low q a) (signed_high p b))
  by (inr a) (inl b) = settled _ _ _ s 65536 _ (both_signs told q p true false (sign_high q a) (sign_low p b)) (mixed_high_low (sign (cut s)))
      (sum_mixed s (omega (arith, a)) (omega (arith, small, b, h))) (sum_signed q p d 65536 0 (signed_high q a) (signed_low p b))

-- the signs of a difference, by those of the words
same_signs : (q t : ℕ) → t ≤ q + 32768 → q ≤ t + 32767 → false ≡ (ltb (q + 32768) t || ltb (t + 32767) q)
same_signs q t h k = grind (arith, common_steps)

low_less_high : (q t : ℕ) → q < 32768 → 32768 ≤ t → t ≤ 65536 → (true && not (beq false (sign (less q t)))) ≡ (ltb (q + 65536 + 32768) t || ltb (t + 32767) (q + 65536))
low_less_high q t h k l = by (cases_lt q t) where
  by : (q < t) ⊎ (t ≤ q) → (true && not (beq false (sign (less q t)))) ≡ (ltb (q + 65536 + 32768) t || ltb (t + 32767) (q + 65536))
  by (inl m) = let e : less q t ≡ q + 65536 - t = omega arith in rw e (grind (arith, common_steps))
  by (inr m) = absurd (omega arith)

high_less_low : (q t : ℕ) → 32768 ≤ q → q < 65536 → t ≤ 32768 → (true && not (beq true (sign (less q t)))) ≡ (ltb (q + 32768) (65536 + t) || ltb (65536 + t + 32767) q)
high_less_low q t h k l = let e : less q t ≡ q - t = omega arith in rw e (grind (arith, common_steps))

-- a difference overflows where the signs differ, and the new one differs from the first
pub difference_overflows : (q p : ℕ) (c : Bool) → q < 65536 → p < 65536 →
    (not (beq (sign q) (sign p)) && not (beq (sign q) (sign (less q (p + bit c))))) ≡ is_outside (signed q -ℤ signed p -ℤ pos (bit c))
difference_overflows q p c h k = by (cases_lt q 32768) (cases_lt p 32768) where
  d : ℕ
  d = bit c

  small : d < 2
  small = bit_lt c

  t : ℕ
  t = p + d

  told : Bool → Bool → Bool
  told x y = not (beq x y) && not (beq x (sign (less q t)))

  by : (q < 32768) ⊎ (32768 ≤ q) → (p < 32768) ⊎ (32768 ≤ p) → told (sign q) (sign p) ≡ is_outside (signed q -ℤ signed p -ℤ pos d)
  by (inl a) (inl b) = settled _ _ _ (q + 0) (0 + t) _ (both_signs told q p false false (sign_low q a) (sign_low p b)) refl
      (same_signs (q + 0) (0 + t) (omega (arith, small, b)) (omega (arith, a))) (difference_signed q p d 0 0 (signed_low q a) (signed_low p b))
  by (inr a) (inr b) = settled _ _ _ (q + 65536) (65536 + t) _ (both_signs told q p true true (sign_high q a) (sign_high p b)) refl
      (same_signs (q + 65536) (65536 + t) (omega (arith, small, a, k)) (omega (arith, b, h))) (difference_signed q p d 65536 65536 (signed_high q a) (signed_high p b))
  by (inl a) (inr b) = settled _ _ _ (q + 65536) (0 + t) _ (both_signs told q p false true (sign_low q a) (sign_high p b)) refl
      (let e : 0 + t ≡ t = omega arith in rw e (low_less_high q t a (omega (arith, b)) (omega (arith, small, k))))
      (difference_signed q p d 0 65536 (signed_low q a) (signed_high p b))
  by (inr a) (inl b) = settled _ _ _ (q + 0) (65536 + t) _ (both_signs told q p true false (sign_high q a) (sign_low p b)) refl
      (let e : q + 0 ≡ q = omega arith in rw e (high_less_low q t a h (omega (arith, small, b))))
      (difference_signed q p d 65536 0 (signed_high q a) (signed_low p b))

-- the same of numbers that are known to be equal
pub difference_told : (q2 p2 v q p : ℕ) (c : Bool) → q2 ≡ q → p2 ≡ p → v ≡ less q (p + bit c) → q < 65536 → p < 65536 →
    (not (beq (sign q2) (sign p2)) && not (beq (sign q2) (sign v))) ≡ is_outside (signed q -ℤ signed p -ℤ pos (bit c))
difference_told q2 p2 v q p c e f g h k = rw (e, f, g) (difference_overflows q p c h k)
