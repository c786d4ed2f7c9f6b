-- Numbers that are too large for 64 bits.
use Rattle.std.proofs.Common.{◌≡◌, ℕ, ◌^◌, ◌<◌, ◌≤◌, true, false, ◌&&◌, cond, nat_le, List, [], ◌∷◌, length, drop, None, Some, refl, ap, subst, sym, inl, inr, arith}
use Rattle.std.specs.Char.{is_digit, digit_value}
use Rattle.std.specs.List.{list_all}
use Rattle.std.specs.Str.Parse.{AllDigits, IsNumeral, digits_value, without_leading_plus}
use Rattle.std.proofs.lemmas.Bool.{false≢true, and_parts, and_right, cases_eq, cases_lt, ltb-true, lt-leb, ne_eqb}
use Rattle.wb_options.specs.Numbers.{is_number, number_in}

-- digits begin with no sign
no_sign : (word : List ℕ) → list_all (λ digit. is_digit digit 10) word ≡ true → without_leading_plus word ≡ word
no_sign [] all = refl
no_sign (c ∷ cs) all =
    let first : is_digit c 10 ≡ true = (and_parts (is_digit c 10) (list_all (λ digit. is_digit digit 10) cs) all).0 in
    elim (cases_eq c 43) [
      | inl plus ↦ let wrong : is_digit 43 10 ≡ true = subst (λ x. is_digit x 10 ≡ true) plus first in absurd (false≢true wrong)
      | inr other ↦ ap (λ b. drop (cond b 1 0) (c ∷ cs)) (ne_eqb c 43 other)
    ]

digits_all : (word : List ℕ) → list_all (λ digit. is_digit digit 10) word ≡ true → AllDigits 10 word
digits_all [] all = tt
digits_all (c ∷ cs) all =
    let parts = and_parts (is_digit c 10) (list_all (λ digit. is_digit digit 10) cs) all in
    (ltb-true (digit_value c) 10 parts.0, digits_all cs parts.1)

-- digits that aren't read as a number of 64 bits are in no range
pub past_range : (least most : ℕ) (word : List ℕ) → most < 2 ^ 64 → 0 < length word → list_all (λ digit. is_digit digit 10) word ≡ true
    → (IsNumeral 10 (without_leading_plus word) × (digits_value 10 (without_leading_plus word) < 2 ^ 64) → ⊥)
    → None ≡ number_in least most word
past_range least most word top some all large =
    let plain : without_leading_plus word ≡ word = no_sign word all in
    let large_here : IsNumeral 10 word × (digits_value 10 word < 2 ^ 64) → ⊥ =
    subst (λ w. IsNumeral 10 w × (digits_value 10 w < 2 ^ 64) → ⊥) plain large in
    let above : 2 ^ 64 ≤ digits_value 10 word = elim (cases_lt (digits_value 10 word) (2 ^ 64)) [
      | inl small ↦ absurd (large_here ((some, digits_all word all), small))
      | inr big ↦ big
    ] in
    let more : most < digits_value 10 word = omega arith in
    let past : nat_le (digits_value 10 word) most ≡ false = lt-leb (digits_value 10 word) most more in
    sym (ap (λ b. cond b (Some (digits_value 10 word)) None)
    (and_right (is_number word && nat_le least (digits_value 10 word)) (nat_le (digits_value 10 word) most) past))
