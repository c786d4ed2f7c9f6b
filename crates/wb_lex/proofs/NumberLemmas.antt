-- Numbers that are read digit by digit, and kept at 2 ^ 32 once they are there.
use Rattle.std.proofs.Common.{◌≡◌, ℕ, ◌+◌, ◌*◌, ◌^◌, ◌<◌, ◌≤◌, ◌⊎◌, inl, inr, min, Bool, true, false, cond, Some, None, List, [], ◌∷◌, length, get_or, take, refl, arith}
use Rattle.std.specs.List.{list_all}
use Rattle.std.specs.Char.{is_digit, digit_value}
use Rattle.std.specs.Str.Parse.{AllDigits, digits_value}
use Rattle.std.proofs.lemmas.Int.Digits.{digits_more, digits_value_more}
use Rattle.std.proofs.Math.Nat.{le-mul_of_pos_right}
use Rattle.std.proofs.lemmas.Bool.{ltb-true, lt-ltb, cases_lt}
use Rattle.wb_lex.specs.Tokens.{numeral}

-- a number that was kept at the limit stays there
pub capped : (base number digit : ℕ) → 2 ≤ base → min (min number (2 ^ 32) * base + digit) (2 ^ 32) ≡ min (number * base + digit) (2 ^ 32)
capped base number digit two = by (cases_lt number (2 ^ 32))
  where
    by : (number < 2 ^ 32) ⊎ (2 ^ 32 ≤ number) → min (min number (2 ^ 32) * base + digit) (2 ^ 32) ≡ min (number * base + digit) (2 ^ 32)
    by (inl small) = let same : min number (2 ^ 32) ≡ number = omega arith in rw same refl
    by (inr large) =
        let same : min number (2 ^ 32) ≡ 2 ^ 32 = omega arith in
        let more : number ≤ number * base = le-mul_of_pos_right number (omega arith) in
        rw same (omega arith)

-- what one byte gives, where it is a digit
pub record Digit (base byte value : ℕ) : Type 0 where
  pub small : digit_value byte < base
  pub same : value ≡ digit_value byte

pub digit_read : (base byte value : ℕ) → cond (is_digit byte base) (Some (digit_value byte)) None ≡ Some value → Digit base byte value
digit_read base byte value read = by (is_digit byte base) refl
  where
    by : (b : Bool) → is_digit byte base ≡ b → Digit base byte value
    by true e = record { small = ltb-true _ _ e; same = let some = rw e at read in cc }
    by false e = let none = rw e at read in cc

-- one digit more
pub record More (base : ℕ) (ds : List ℕ) (count value : ℕ) : Type 0 where
  pub digits : AllDigits base (take count ds)
  pub capped_at : value ≡ min (digits_value base (take count ds)) (2 ^ 32)

pub more_digits : (base : ℕ) (digits : List ℕ) (place value digit : ℕ) → 2 ≤ base → place < length digits → AllDigits base (take place digits)
    → value ≡ min (digits_value base (take place digits)) (2 ^ 32) → Digit base (get_or digits place 0) digit → More base digits (place + 1) (min (value * base + digit) (2 ^ 32))
more_digits base digits place value digit two within all same read = record {
  digits = digits_more base digits place within all read.small;
  capped_at =
      let more = digits_value_more base digits place within in
      rw (more, same, read.same) (capped base (digits_value base (take place digits)) (digit_value (get_or digits place 0)) two);
}

all_digits_tested : (base : ℕ) (digits : List ℕ) → AllDigits base digits → list_all (λ digit. is_digit digit base) digits ≡ true
all_digits_tested base [] all = refl
all_digits_tested base (d ∷ ds) all = rw (lt-ltb _ _ all.0) (all_digits_tested base ds all.1)

-- the number of digits alone
pub numeral_of_digits : (base : ℕ) (digits : List ℕ) → 0 < length digits → AllDigits base digits → numeral base digits ≡ Some (digits_value base digits)
numeral_of_digits base digits some all = rw (lt-ltb _ _ some, all_digits_tested base digits all) refl
