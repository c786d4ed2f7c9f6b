-- What stands at the front of a rest of a text.
use Rattle.std.proofs.Common.{◌≡◌, ℕ, ◌+◌, ◌<◌, ◌≤◌, suc, Bool, true, false, cond, not, eqb, Some, None, List, [], ◌∷◌, length, get_or, take, drop, sym, refl, ap, ◌∙◌, arith}
use Rattle.std.specs.Prelude.{◌&&◌}
use Rattle.std.specs.List.{prefix_len, position_or_len, list_all, list_any}
use Rattle.std.proofs.lemmas.List.{take-append-drop, length-take-le}
use Rattle.std.proofs.lemmas.List.Sums.{prefix_len-le-length}
use Rattle.std.proofs.lemmas.Bool.{ne_eqb, eqb-true, and_parts}
use Rattle.wb_lex.specs.declared.tokens.TokenKind.{TokenKind}
use Rattle.wb_lex.specs.declared.tokens.TokenKind.TheVariants as kind
use Rattle.wb_lex.specs.declared.front.Front.TheVariants.{Skipped, Token, LineEnd, Wide, Foreign}
use Rattle.wb_lex.specs.Characters.{is_word_character, begins_word, is_blank, is_mark}
use Rattle.wb_lex.specs.Pieces.{Blank, Return, Comment, Word, Mark, begins, ends_line}
use Rattle.wb_lex.specs.Tokens.{word_kind, is_wide_kind}
use Rattle.wb_lex.specs.Scan.{narrow, BeginsWith, IsFront}

-- ---- a run of bytes that pass a test

abbrev run : (ℕ → Bool) → List ℕ → List ℕ
run p xs = take (prefix_len p xs) xs

all_in_run : (p : ℕ → Bool) (xs : List ℕ) → list_all p (take (prefix_len p xs) xs) ≡ true
all_in_run p [] = refl
all_in_run p (x ∷ xs) = by (p x) refl (all_in_run p xs)
  where
    by : (b : Bool) → p x ≡ b → list_all p (take (prefix_len p xs) xs) ≡ true → list_all p (take (cond b (1 + prefix_len p xs) 0) (x ∷ xs)) ≡ true
    by true e more = let one : 1 + prefix_len p xs ≡ suc (prefix_len p xs) = omega arith in rw (one, e) more
    by false e more = refl

after_run : (p : ℕ → Bool) (xs : List ℕ) → begins p (drop (prefix_len p xs) xs) ≡ false
after_run p [] = refl
after_run p (x ∷ xs) = by (p x) refl (after_run p xs)
  where
    by : (b : Bool) → p x ≡ b → begins p (drop (prefix_len p xs) xs) ≡ false → begins p (drop (cond b (1 + prefix_len p xs) 0) (x ∷ xs)) ≡ false
    by true e more = let one : 1 + prefix_len p xs ≡ suc (prefix_len p xs) = omega arith in rw one more
    by false e more = e

none_before : (p : ℕ → Bool) (xs : List ℕ) → list_any p (take (position_or_len p xs) xs) ≡ false
none_before p [] = refl
none_before p (x ∷ xs) = by (p x) refl (none_before p xs)
  where
    by : (b : Bool) → p x ≡ b → list_any p (take (position_or_len p xs) xs) ≡ false → list_any p (take (cond (not b) (1 + position_or_len p xs) 0) (x ∷ xs)) ≡ false
    by true e more = refl
    by false e more = let one : 1 + position_or_len p xs ≡ suc (position_or_len p xs) = omega arith in rw (one, e) more

abbrev line_end : List ℕ → ℕ
line_end xs = position_or_len (λ byte. eqb byte 10) xs

line_ends : (xs : List ℕ) → ends_line (drop (line_end xs) xs) ≡ true
line_ends [] = refl
line_ends (x ∷ xs) = by (eqb x 10) refl (line_ends xs)
  where
    by : (b : Bool) → eqb x 10 ≡ b → ends_line (drop (line_end xs) xs) ≡ true → ends_line (drop (cond (not b) (1 + line_end xs) 0) (x ∷ xs)) ≡ true
    by true e more = e
    by false e more = let one : 1 + line_end xs ≡ suc (line_end xs) = omega arith in rw one more

-- ---- the pieces

narrow_some : (found kind : TokenKind) → narrow found ≡ Some kind → (found ≡ kind) × (is_wide_kind kind ≡ false)
narrow_some found kind e = by (is_wide_kind found) refl
  where
    by : (b : Bool) → is_wide_kind found ≡ b → (found ≡ kind) × (is_wide_kind kind ≡ false)
    by true wide = let none = rw wide at e in cc
    by false small = let some = rw small at e in let same : found ≡ kind = cc in (same, rw (← same) small)

narrow_none : (found : TokenKind) → narrow found ≡ None → is_wide_kind found ≡ true
narrow_none found e = by (is_wide_kind found) refl
  where
    by : (b : Bool) → is_wide_kind found ≡ b → is_wide_kind found ≡ true
    by true wide = wide
    by false small = let some = rw small at e in cc

-- the word at the front
abbrev pub word_at : List ℕ → ℕ → List ℕ
word_at rest size = take size rest

word_there : (rest : List ℕ) (count : ℕ) → 0 < length rest → begins_word (get_or rest 0 0) ≡ true → count ≡ prefix_len is_word_character (drop 1 rest)
    → BeginsWith rest (1 + count) (Word (take (1 + count) rest))
word_there [] count some first e = absurd (omega arith)
word_there (x ∷ xs) count some first e =
    let one : 1 + count ≡ suc count = omega arith in
    let in_rest : count ≤ length xs = rw e (prefix_len-le-length is_word_character xs) in
    record {
      split = rw one (ap (λ ys. x ∷ ys) (sym (take-append-drop count xs)));
      whole = rw (one, e) (rw (first, all_in_run is_word_character xs) refl, rw (after_run is_word_character xs) refl);
      sized = rw one (omega (arith, length-take-le count xs in_rest));
    }

pub word_token : (rest : List ℕ) (count : ℕ) (kind : TokenKind) → 0 < length rest → begins_word (get_or rest 0 0) ≡ true → count ≡ prefix_len is_word_character (drop 1 rest)
    → narrow (word_kind (take (1 + count) rest)) ≡ Some kind → IsFront rest (Token kind (1 + count))
word_token rest count kind some first e read =
    let is = narrow_some (word_kind (take (1 + count) rest)) kind read in
    (Word (take (1 + count) rest), word_there rest count some first e, ap (λ k. Some k) is.0, is.1, λ feed. cc)

pub word_wide : (rest : List ℕ) (count : ℕ) → 0 < length rest → begins_word (get_or rest 0 0) ≡ true → count ≡ prefix_len is_word_character (drop 1 rest)
    → narrow (word_kind (take (1 + count) rest)) ≡ None → IsFront rest Wide
word_wide rest count some first e read =
    let there = word_there rest count some first e in
    (take (1 + count) rest, drop (1 + count) rest, there.split, there.whole, narrow_none (word_kind (take (1 + count) rest)) read)

pub mark_token : (rest : List ℕ) → 0 < length rest → is_mark (get_or rest 0 0) ≡ true → IsFront rest (Token (kind.Mark (get_or rest 0 0)) 1)
mark_token [] some mark = absurd (omega arith)
mark_token (x ∷ xs) some mark = (Mark x, record { split = refl; whole = mark; sized = refl }, refl, refl, λ feed. cc)

pub feed_there : (rest : List ℕ) → 0 < length rest → get_or rest 0 0 ≡ 10 → IsFront rest LineEnd
feed_there [] some feed = absurd (omega arith)
feed_there (x ∷ xs) some feed = record { split = ap (λ y. y ∷ xs) feed; whole = tt; sized = refl }

pub comment_there : (rest : List ℕ) (count : ℕ) → 0 < length rest → get_or rest 0 0 ≡ 59 → count ≡ line_end (drop 1 rest) → IsFront rest (Skipped (1 + count))
comment_there [] count some first e = absurd (omega arith)
comment_there (x ∷ xs) count some first e =
    let one : 1 + count ≡ suc count = omega arith in
    let in_rest : count ≤ length xs = rw e (prefix_len-le-length (λ byte. not (eqb byte 10)) xs) in (
      Comment (take count xs),
      record {
        split = rw one (ap (λ y. y ∷ xs) first ∙ ap (λ ys. 59 ∷ ys) (sym (take-append-drop count xs)));
        whole = rw (one, e) (rw (none_before (λ byte. eqb byte 10) xs) refl, line_ends xs);
        sized = rw one (omega (arith, length-take-le count xs in_rest));
      },
      refl,
    )

pub blank_there : (rest : List ℕ) → 0 < length rest → is_blank (get_or rest 0 0) ≡ true → IsFront rest (Skipped 1)
blank_there [] some blank = absurd (omega arith)
blank_there (x ∷ xs) some blank = (Blank x, record { split = refl; whole = blank; sized = refl }, refl)

pub return_there : (rest : List ℕ) → 0 < length rest → (eqb (get_or rest 0 0) 13 && begins (λ next. eqb next 10) (drop 1 rest)) ≡ true → IsFront rest (Skipped 1)
return_there [] some e = absurd (omega arith)
return_there (x ∷ xs) some e =
    let both = and_parts (eqb x 13) (begins (λ next. eqb next 10) xs) e in
    (Return, record { split = ap (λ y. y ∷ xs) (eqb-true x 13 both.0); whole = both.1; sized = refl }, refl)

pub foreign_there : (rest : List ℕ) → 0 < length rest → begins_word (get_or rest 0 0) ≡ false → is_mark (get_or rest 0 0) ≡ false → (get_or rest 0 0 ≡ 10 → ⊥) → (get_or rest 0 0 ≡ 59 → ⊥)
    → is_blank (get_or rest 0 0) ≡ false → (eqb (get_or rest 0 0) 13 && begins (λ next. eqb next 10) (drop 1 rest)) ≡ false → IsFront rest Foreign
foreign_there [] some a b c d e f = absurd (omega arith)
foreign_there (x ∷ xs) some a b c d e f = (x, xs, refl, rw (e, a, b, ne_eqb x 10 c, ne_eqb x 59 d, f) refl)
