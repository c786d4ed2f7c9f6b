-- A text is cut in one way: the piece at its front is determined by its bytes.
use Rattle.std.proofs.Common.{◌≡◌, ℕ, ◌⊎◌, inl, inr, Bool, true, false, not, ◌&&◌, ◌||◌, cond, eqb, Option, Some, None, List, [], ◌∷◌, ◌++◌, length, take, drop, sym, refl, ap, ◌∙◌, arith}
use Rattle.std.specs.List.{list_all, list_any, prefix_len, position_or_len}
use Rattle.std.proofs.lemmas.Bool.{and_parts, or_cases, eqb-true}
use Rattle.std.proofs.Math.Seq.{take-append_seam, drop-append_seam}
use Rattle.wb_lex.specs.Characters.{is_blank, is_word_character, begins_word, is_mark}
use Rattle.wb_lex.specs.Pieces.{Piece, Blank, Return, Comment, Word, Mark, Feed, bytes_of, begins, ends_line, IsPiece, is_foreign}
use Rattle.wb_lex.proofs.ScanLemmas.{not_false}

-- ---- the piece at the front

abbrev pub is_feed : ℕ → Bool
is_feed byte = eqb byte 10

abbrev pub word_size : List ℕ → ℕ
word_size xs = prefix_len is_word_character xs

abbrev pub line_size : List ℕ → ℕ
line_size xs = position_or_len is_feed xs

abbrev Found : Type 0
Found = Option (Piece × List ℕ)

-- the first of these whose test holds
abbrev first_of_six : Bool → Bool → Bool → Bool → Bool → Bool → Found → Found → Found → Found → Found → Found → Found
first_of_six b c d e f g p q r s t u = cond b p (cond c q (cond d r (cond e s (cond f t (cond g u None)))))

-- the piece at the front of a text, and what follows it
abbrev pub front : List ℕ → Found
front [] = None
front (x ∷ xs) =
    first_of_six (begins_word x) (is_mark x) (is_feed x) (eqb x 59) (is_blank x) (eqb x 13 && begins is_feed xs)
    (Some (Word (x ∷ take (word_size xs) xs), drop (word_size xs) xs)) (Some (Mark x, xs)) (Some (Feed, xs))
    (Some (Comment (take (line_size xs) xs), drop (line_size xs) xs)) (Some (Blank x, xs)) (Some (Return, xs))

-- a byte of a list passes what all of its bytes pass
any_passes : (p : ℕ → Bool) (bytes : List ℕ) (byte : ℕ) → list_all p bytes ≡ true → list_any (λ other. eqb byte other) bytes ≡ true → p byte ≡ true
any_passes p [] byte all any = cc
any_passes p (x ∷ xs) byte all any =
    let both = and_parts (p x) (list_all p xs) all in
    by (or_cases (eqb byte x) (list_any (λ other. eqb byte other) xs) any) both.0 (any_passes p xs byte both.1)
  where
    by : (eqb byte x ≡ true) ⊎ (list_any (λ other. eqb byte other) xs ≡ true) → p x ≡ true → (list_any (λ other. eqb byte other) xs ≡ true → p byte ≡ true) → p byte ≡ true
    by (inl same) here more = ap p (eqb-true byte x same) ∙ here
    by (inr later) here more = more later

mark_begins_no_word : (byte : ℕ) → is_mark byte ≡ true → begins_word byte ≡ false
mark_begins_no_word byte mark = not_false (begins_word byte) (any_passes (λ b. not (begins_word b)) (58 ∷ 44 ∷ 124 ∷ 43 ∷ 45 ∷ 42 ∷ 40 ∷ 41 ∷ 36 ∷ []) byte refl mark)

-- how far a run goes, where it ends
run_size : (p : ℕ → Bool) (xs rest : List ℕ) → list_all p xs ≡ true → begins p rest ≡ false → prefix_len p (xs ++ rest) ≡ length xs
run_size p [] [] all ends = refl
run_size p [] (y ∷ rest) all ends = rw ends refl
run_size p (x ∷ xs) rest all ends =
    let both = and_parts (p x) (list_all p xs) all in
    let more = run_size p xs rest both.1 ends in
    rw (both.0, more) (omega arith)

line_runs : (xs rest : List ℕ) → list_any is_feed xs ≡ false → ends_line rest ≡ true → line_size (xs ++ rest) ≡ length xs
line_runs [] [] none ends = refl
line_runs [] (y ∷ rest) none ends = rw ends refl
line_runs (x ∷ xs) rest none ends = by (is_feed x) refl none (λ h. line_runs xs rest h ends)
  where
    by : (b : Bool) → is_feed x ≡ b → (b || list_any is_feed xs) ≡ false → (list_any is_feed xs ≡ false → line_size (xs ++ rest) ≡ length xs) → line_size (x ∷ (xs ++ rest)) ≡ length (x ∷ xs)
    by true e none more = cc
    by false e none more = let size = more none in rw (e, size) (omega arith)

front_blank : (byte : ℕ) (rest : List ℕ) → (byte ≡ 32) ⊎ (byte ≡ 9) → front (byte ∷ rest) ≡ Some (Blank byte, rest)
front_blank byte rest (inl e) = rw e refl
front_blank byte rest (inr e) = rw e refl

-- a piece is that at the front of its text
pub front_is : (piece : Piece) (rest : List ℕ) → IsPiece piece rest → front (bytes_of piece ++ rest) ≡ Some (piece, rest)
front_is (Blank byte) rest is = by (or_cases (eqb byte 32) (eqb byte 9) is)
  where
    by : (eqb byte 32 ≡ true) ⊎ (eqb byte 9 ≡ true) → front (byte ∷ rest) ≡ Some (Blank byte, rest)
    by (inl e) = front_blank byte rest (inl (eqb-true byte 32 e))
    by (inr e) = front_blank byte rest (inr (eqb-true byte 9 e))
front_is Return rest is = rw is refl
front_is (Comment bytes) rest is =
    let size = line_runs bytes rest (not_false (list_any is_feed bytes) is.0) is.1 in
    rw (size, take-append_seam bytes rest, drop-append_seam bytes rest) refl
front_is (Word []) rest is = let wrong = is.0 in cc
front_is (Word (x ∷ xs)) rest is =
    let both = and_parts (begins_word x) (list_all is_word_character xs) is.0 in
    let size = run_size is_word_character xs rest both.1 (not_false (begins is_word_character rest) is.1) in
    rw (both.0, size, take-append_seam xs rest, drop-append_seam xs rest) refl
front_is (Mark byte) rest is = rw (mark_begins_no_word byte is, is) refl
front_is Feed rest is = refl

none_of_six : (w m f c b r : Bool) (p q s t u v : Found) → not (((((b || w) || m) || c) || f) || r) ≡ true → first_of_six w m f c b r p q s t u v ≡ None
none_of_six false false false false false false p q s t u v e = refl
none_of_six false false false false false true p q s t u v e = cc
none_of_six w m f c true r p q s t u v e = cc
none_of_six true m f c false r p q s t u v e = cc
none_of_six false true f c false r p q s t u v e = cc
none_of_six false false f true false r p q s t u v e = cc
none_of_six false false true false false r p q s t u v e = cc

pub foreign_front : (byte : ℕ) (rest : List ℕ) → is_foreign byte rest ≡ true → front (byte ∷ rest) ≡ None
foreign_front byte rest is =
    none_of_six (begins_word byte) (is_mark byte) (is_feed byte) (eqb byte 59) (is_blank byte) (eqb byte 13 && begins is_feed rest) _ _ _ _ _ _ is

-- two pieces at the front of one text are one
pub same_piece : (p q : Piece) (xs ys : List ℕ) → bytes_of p ++ xs ≡ bytes_of q ++ ys → IsPiece p xs → IsPiece q ys → (p ≡ q) × (xs ≡ ys)
same_piece p q xs ys e is other =
    let a = front_is p xs is in
    let b = front_is q ys other in
    let both : Some (p, xs) ≡ Some (q, ys) = sym a ∙ ap front e ∙ b in
    (ap (λ o. piece_in o) both, ap (λ o. rest_in o) both)
  where
    piece_in : Option (Piece × List ℕ) → Piece
    piece_in None = p
    piece_in (Some found) = found.0

    rest_in : Option (Piece × List ℕ) → List ℕ
    rest_in None = xs
    rest_in (Some found) = found.1
