-- The first line of a text, and what the table of lines can say.
use Rattle.std.proofs.Common.{◌≡◌, ℕ, ◌+◌, ◌<◌, ◌≤◌, Bool, true, false, eqb, List, [], ◌∷◌, length, take, drop, refl, ap, ◌∙◌, arith}
use Rattle.std.specs.List.{slice_split, onto_first, position_or_len}
use Rattle.std.specs.Str.Lines.{lines, lines_of_parts, strip_carriage_return}
use Rattle.std.proofs.lemmas.List.Splits.{slice_split_first, slice_split_none}
use Rattle.std.proofs.lemmas.Bool.{ne_eqb}
use Rattle.std.proofs.lemmas.List.Sums.{fails_before_first}

-- a list has at least one part
record Parts (p : ℕ → Bool) (xs : List ℕ) : Type 0 where
  first : List ℕ
  others : List (List ℕ)
  split : slice_split p xs ≡ first ∷ others

parts : (p : ℕ → Bool) (xs : List ℕ) → Parts p xs
parts p [] = record { first = []; others = []; split = refl }
parts p (x ∷ xs) = by (p x) refl (parts p xs)
  where
    by : (b : Bool) → p x ≡ b → Parts p xs → Parts p (x ∷ xs)
    by true e more = record { first = []; others = slice_split p xs; split = rw e refl }
    by false e more = record { first = x ∷ more.first; others = more.others; split = rw e (ap (onto_first x) more.split) }

before_other_parts : (x : List ℕ) (xs : List (List ℕ)) (y : List ℕ) (ys : List (List ℕ)) → xs ≡ y ∷ ys → lines_of_parts (x ∷ xs) ≡ strip_carriage_return x ∷ lines_of_parts xs
before_other_parts x xs y ys e = rw e refl

abbrev pub feed : List ℕ → ℕ
feed text = position_or_len (λ b. eqb b 10) text

-- a line feed ends the first line
pub first_line : (text : List ℕ) → feed text < length text → lines text ≡ strip_carriage_return (take (feed text) text) ∷ lines (drop (feed text + 1) text)
first_line text within =
    let more = parts (λ b. eqb b 10) (drop (feed text + 1) text) in
    ap lines_of_parts (slice_split_first (λ b. eqb b 10) text 0 within) ∙ before_other_parts _ _ _ _ more.split

-- without one, the text is its only line
pub only_line : (text : List ℕ) → 0 < length text → length text ≤ feed text → lines text ≡ text ∷ []
only_line text some none =
    ap lines_of_parts (slice_split_none (λ b. eqb b 10) text (λ k d below. fails_before_first (λ b. eqb b 10) text k d (omega arith)))
    ∙ rw (ne_eqb (length text) 0 (λ e. absurd (omega arith))) refl
