-- Laws of the fields of a line and of the numbers in them.
use Rattle.std.proofs.Common.{◌≡◌, ℕ, suc, ◌+◌, ◌*◌, ◌<◌, ◌≤◌, Bool, true, false, cond, Some, None, ◌^◌, List, [], ◌∷◌, length, get_or, take, drop, sym, refl, ap, ◌∙◌, arith, nat_lt}
use Rattle.std.specs.List.{slice_split, onto_first, filter, list_all, position_or_len}
use Rattle.std.specs.Char.{is_digit, digit_value}
use Rattle.std.specs.Str.Parse.{AllDigits, digits_value}
use Rattle.std.proofs.lemmas.List.Splits.{slice_split-cons_yes}
use Rattle.std.proofs.lemmas.List.{length-take-le}
use Rattle.std.proofs.lemmas.Int.Digits.{digits_value-lt, digits_more, digits_value_more}
use Rattle.std.proofs.Math.Nat.{pow-le-pow_right}
use Rattle.std.proofs.lemmas.Bool.{ltb-true, lt-ltb}
use Rattle.wb_script.specs.Statement.{is_blank, fields}

-- the parts that are no empty ones
abbrev filled : List (List ℕ) → List (List ℕ)
filled parts = filter (λ field. nat_lt 0 (length field)) parts

-- a blank at the front changes no field
pub fields-blank : (x : ℕ) (xs : List ℕ) → is_blank x ≡ true → fields (x ∷ xs) ≡ fields xs
fields-blank x xs blank = ap filled (slice_split-cons_yes is_blank x xs blank)

-- the first part ends at the first blank, and the other parts are those of what is left
record Parts (xs : List ℕ) : Type 0 where
  more : List (List ℕ)
  split : slice_split is_blank xs ≡ take (position_or_len is_blank xs) xs ∷ more
  rest : fields (drop (position_or_len is_blank xs) xs) ≡ filled more

parts : (xs : List ℕ) → Parts xs
parts [] = record { more = []; split = refl; rest = refl }
parts (x ∷ xs) = by (is_blank x) refl (parts xs)
  where
    by : (b : Bool) → is_blank x ≡ b → Parts xs → Parts (x ∷ xs)
    by true e p = record {
      more = slice_split is_blank xs;
      split = rw e refl;
      rest = rw e (fields-blank x xs e);
    }
    by false e p =
        let one : 1 + position_or_len is_blank xs ≡ suc (position_or_len is_blank xs) = omega arith in
        record {
          more = p.more;
          split = rw (e, one) (ap (onto_first x) p.split);
          rest = rw (e, one) p.rest;
        }

filled-some : (x : List ℕ) (xs : List (List ℕ)) → 0 < length x → filled (x ∷ xs) ≡ x ∷ filled xs
filled-some x xs some = rw (lt-ltb _ _ some) refl

-- a first field, and the fields of what follows it
pub first_field : (xs : List ℕ) → 0 < length (take (position_or_len is_blank xs) xs) → fields xs ≡ take (position_or_len is_blank xs) xs ∷ fields (drop (position_or_len is_blank xs) xs)
first_field xs some =
    let p = parts xs in
    ap filled p.split ∙ (filled-some _ p.more some ∙ ap (λ rest. take (position_or_len is_blank xs) xs ∷ rest) (sym p.rest))

-- where no field starts at the front, there is none
pub no_field : (xs : List ℕ) → (0 < length xs → is_blank (get_or xs 0 0) ≡ false) → length (take (position_or_len is_blank xs) xs) ≡ 0 → fields xs ≡ []
no_field [] first none = refl
no_field (x ∷ xs) first none =
    let e : is_blank x ≡ false = first (omega arith) in
    let one : 1 + position_or_len is_blank xs ≡ suc (position_or_len is_blank xs) = omega arith in
    absurd (omega (arith, rw (e, one) at none))

-- the digits of a number, as the test of each says it
all_digits_tested : (ds : List ℕ) → AllDigits 10 ds → list_all (λ digit. is_digit digit 10) ds ≡ true
all_digits_tested [] all = refl
all_digits_tested (d ∷ ds) all = rw (lt-ltb _ _ all.0) (all_digits_tested ds all.1)

-- what one byte gives, where it is a digit
pub record Digit (byte value : ℕ) : Type 0 where
  pub small : digit_value byte < 10
  pub same : value ≡ digit_value byte

pub digit_read : (byte value : ℕ) → cond (is_digit byte 10) (Some (digit_value byte)) None ≡ Some value → Digit byte value
digit_read byte value read = by (is_digit byte 10) refl
  where
    by : (b : Bool) → is_digit byte 10 ≡ b → Digit byte value
    by true e = record { small = ltb-true _ _ e; same = let some = rw e at read in cc }
    by false e = let none = rw e at read in cc

-- a byte that gives none is no digit
pub digit_refused : (byte : ℕ) → cond (is_digit byte 10) (Some (digit_value byte)) None ≡ None → is_digit byte 10 ≡ false
digit_refused byte read = by (is_digit byte 10) refl
  where
    by : (b : Bool) → is_digit byte 10 ≡ b → is_digit byte 10 ≡ false
    by true e = let some = rw e at read in cc
    by false e = e

-- four digits or fewer write a number below ten thousand
pub few_digits : (ds : List ℕ) (i : ℕ) → i < length ds → length ds ≤ 5 → AllDigits 10 (take i ds) → digits_value 10 (take i ds) < 10000
few_digits ds i within few all =
    let long : length (take i ds) ≡ i = length-take-le i ds (omega arith) in
    let below : digits_value 10 (take i ds) < 10 ^ i = rw long at (digits_value-lt 10 (take i ds) all) in
    let most : 10 ^ i ≤ 10 ^ 4 = pow-le-pow_right {n = 10} (omega arith) {i = i} {j = 4} (omega arith) in
    omega arith

-- one digit more
pub record More (ds : List ℕ) (n v : ℕ) : Type 0 where
  pub digits : AllDigits 10 (take n ds)
  pub value : v ≡ digits_value 10 (take n ds)

pub more_digits : (ds : List ℕ) (i v value : ℕ) → i < length ds → AllDigits 10 (take i ds) → v ≡ digits_value 10 (take i ds) → Digit (get_or ds i 0) value → More ds (i + 1) (v * 10 + value)
more_digits ds i v value within all same digit = record {
  digits = digits_more 10 ds i within all digit.small;
  value =
      let more = digits_value_more 10 ds i within in
      let d = digit.same in
      cc;
}

-- the number of a text of digits
pub tested : (ds : List ℕ) → AllDigits 10 ds → cond (list_all (λ digit. is_digit digit 10) ds) (Some (digits_value 10 ds)) None ≡ Some (digits_value 10 ds)
tested ds all = rw (all_digits_tested ds all) refl
