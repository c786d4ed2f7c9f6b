-- A text has tokens or a first fault, and only one of these.
use Rattle.std.proofs.Common.{◌≡◌, ℕ, ◌+◌, ◌<◌, ◌≤◌, ◌⊎◌, inl, inr, zero, suc, Bool, true, false, ◌&&◌, eqb, Option, Some, None, List, [], ◌∷◌, ◌++◌, length, get_or, take, drop, sym, refl, ap, ◌∙◌, subst, arith}
use Rattle.std.proofs.lemmas.List.{append_cancel_right, length-drop, take-append-drop, drop_all}
use Rattle.std.proofs.lemmas.Bool.{eqb-true, eq-eqb, cases_lt}
use Rattle.wb_lex.specs.declared.tokens.Token.{Token as TheToken}
use Rattle.wb_lex.specs.declared.tokens.TokenKind.{TokenKind}
use Rattle.wb_lex.specs.declared.tokens.TokenKind.TheVariants as kind
use Rattle.wb_lex.specs.declared.faults.LexFault.{LexFault}
use Rattle.wb_lex.specs.declared.faults.LexFault.TheVariants as fault
use Rattle.wb_lex.specs.declared.front.Front.{Front}
use Rattle.wb_lex.specs.declared.front.Front.TheVariants.{Skipped, Token, LineEnd, Wide, Foreign}
use Rattle.wb_lex.specs.Characters.{is_blank, begins_word, is_mark}
use Rattle.wb_lex.specs.Pieces.{Piece, Blank, Return, Comment, Word, Mark, Feed, bytes_of, begins, IsPiece, IsCut}
use Rattle.wb_lex.specs.Tokens.{word_kind, token_kind, line_after, column_after, is_wide, AreNarrow, tokens_from, IsTokens, BeginsWithFault, IsFirstFault}
use Rattle.wb_lex.specs.Scan.{narrow, IsFront}
use Rattle.wb_lex.proofs.FrontLemmas.{word_token, word_wide, mark_token, feed_there, comment_there, blank_there, return_there, foreign_there}
use Rattle.wb_lex.proofs.ScanLemmas.{Progress, written, begin, advance_skipped, advance_token, advance_line, wide_there}
use Rattle.wb_lex.proofs.OneCut.{front, front_is, foreign_front, same_piece, word_size, line_size}

-- ---- only one

-- no piece is empty
no_piece_at_end : (p : Piece) (xs : List ℕ) → [] ≡ bytes_of p ++ xs → IsPiece p xs → ⊥
no_piece_at_end p xs e is = let there = ap front e ∙ front_is p xs is in cc

one_cut : (text : List ℕ) (ps qs : List Piece) → IsCut text ps [] → IsCut text qs [] → ps ≡ qs
one_cut text [] [] cut other = refl
one_cut text [] (q ∷ qs) cut other = absurd (no_piece_at_end q other.0 (sym cut ∙ other.1) other.2)
one_cut text (p ∷ ps) [] cut other = absurd (no_piece_at_end p cut.0 (sym other ∙ cut.1) cut.2)
one_cut text (p ∷ ps) (q ∷ qs) cut other =
    let same = same_piece p q cut.0 other.0 (sym cut.1 ∙ other.1) cut.2 other.2 in
    let more = one_cut cut.0 ps qs cut.3 (subst (λ xs. IsCut xs qs []) (sym same.1) other.3) in
    cc

pub one_list : (text : List ℕ) (tokens others : List TheToken) → IsTokens text tokens → IsTokens text others → tokens ≡ others
one_list text tokens others is other = is.same ∙ ap (tokens_from []) (one_cut text is.pieces other.pieces is.cut other.cut) ∙ sym other.same

-- where a fault stands no good piece does
blocked : (before rest : List ℕ) (f : LexFault) → BeginsWithFault before rest f → (p : Piece) (xs : List ℕ) → rest ≡ bytes_of p ++ xs → IsPiece p xs → is_wide (token_kind p) ≡ false → ⊥
blocked before rest (fault.Byte line column) faulty p xs split is small =
    let none = foreign_front faulty.0 faulty.1 faulty.3 in
    let there = front_is p xs is in
    let same = ap front (sym faulty.2 ∙ split) in
    cc
blocked before rest (fault.Wide line) faulty p xs split is small =
    let same = same_piece (Word faulty.0) p faulty.1 xs (sym faulty.2 ∙ split) faulty.3 is in
    let wide : is_wide (token_kind (Word faulty.0)) ≡ true = faulty.4 in
    let also = ap (λ piece. is_wide (token_kind piece)) same.0 in
    cc
blocked before rest fault.OutOfMemory faulty p xs split is small = absurd faulty

-- nor does the text end there
not_at_end : (before rest : List ℕ) (f : LexFault) → BeginsWithFault before rest f → rest ≡ [] → ⊥
not_at_end before rest (fault.Byte line column) faulty none = let e = sym faulty.2 ∙ none in cc
not_at_end before rest (fault.Wide line) faulty none = no_piece_at_end (Word faulty.0) faulty.1 (sym none ∙ faulty.2) faulty.3
not_at_end before rest fault.OutOfMemory faulty none = absurd faulty

no_fault : (text : List ℕ) (ps qs : List Piece) (before rest : List ℕ) (f : LexFault) → IsCut text ps [] → AreNarrow ps → IsCut text qs rest → BeginsWithFault before rest f → ⊥
no_fault text [] [] before rest f cut small other faulty = not_at_end before rest f faulty (sym other ∙ cut)
no_fault text (p ∷ ps) [] before rest f cut small other faulty = blocked before rest f faulty p cut.0 (sym other ∙ cut.1) cut.2 small.0
no_fault text [] (q ∷ qs) before rest f cut small other faulty = no_piece_at_end q other.0 (sym cut ∙ other.1) other.2
no_fault text (p ∷ ps) (q ∷ qs) before rest f cut small other faulty =
    let same = same_piece p q cut.0 other.0 (sym cut.1 ∙ other.1) cut.2 other.2 in
    no_fault cut.0 ps qs before rest f cut.3 small.1 (subst (λ xs. IsCut xs qs rest) (sym same.1) other.3) faulty

pub never_both : (text : List ℕ) (tokens : List TheToken) (f : LexFault) → IsTokens text tokens → IsFirstFault text f → ⊥
never_both text tokens f is bad = no_fault text is.pieces bad.pieces bad.before bad.rest f is.cut is.narrow bad.cut bad.faulty

one_rest : (text : List ℕ) (ps qs : List Piece) (before before' rest rest' : List ℕ) (f g : LexFault) → IsCut text ps rest → AreNarrow ps → BeginsWithFault before rest f
    → IsCut text qs rest' → AreNarrow qs → BeginsWithFault before' rest' g → rest ≡ rest'
one_rest text [] [] before before' rest rest' f g cut small faulty cut' small' faulty' = sym cut ∙ cut'
one_rest text [] (q ∷ qs) before before' rest rest' f g cut small faulty cut' small' faulty' =
    absurd (blocked before rest f faulty q cut'.0 (sym cut ∙ cut'.1) cut'.2 small'.0)
one_rest text (p ∷ ps) [] before before' rest rest' f g cut small faulty cut' small' faulty' =
    absurd (blocked before' rest' g faulty' p cut.0 (sym cut' ∙ cut.1) cut.2 small.0)
one_rest text (p ∷ ps) (q ∷ qs) before before' rest rest' f g cut small faulty cut' small' faulty' =
    let same = same_piece p q cut.0 cut'.0 (sym cut.1 ∙ cut'.1) cut.2 cut'.2 in
    one_rest cut.0 ps qs before before' rest rest' f g cut.3 small.1 faulty (subst (λ xs. IsCut xs qs rest') (sym same.1) cut'.3) small'.1 faulty'

same_fault : (before rest : List ℕ) (f g : LexFault) → BeginsWithFault before rest f → BeginsWithFault before rest g → f ≡ g
same_fault before rest (fault.Byte line column) (fault.Byte line' column') a b =
    ap (λ n. fault.Byte n column) (a.4 ∙ sym b.4) ∙ ap (λ n. fault.Byte line' n) (a.5 ∙ sym b.5)
same_fault before rest (fault.Byte line column) (fault.Wide line') a b =
    let none = foreign_front a.0 a.1 a.3 in
    let there = front_is (Word b.0) b.1 b.3 in
    let same = ap front (sym a.2 ∙ b.2) in
    cc
same_fault before rest (fault.Wide line) (fault.Byte line' column') a b =
    let none = foreign_front b.0 b.1 b.3 in
    let there = front_is (Word a.0) a.1 a.3 in
    let same = ap front (sym b.2 ∙ a.2) in
    cc
same_fault before rest (fault.Wide line) (fault.Wide line') a b = ap (λ n. fault.Wide n) (a.5 ∙ sym b.5)
same_fault before rest fault.OutOfMemory g a b = absurd a
same_fault before rest (fault.Byte line column) fault.OutOfMemory a b = absurd b
same_fault before rest (fault.Wide line) fault.OutOfMemory a b = absurd b

pub one_fault : (text : List ℕ) (f g : LexFault) → IsFirstFault text f → IsFirstFault text g → f ≡ g
one_fault text f g a b =
    let rest = one_rest text a.pieces b.pieces a.before b.before a.rest b.rest f g a.cut a.narrow a.faulty b.cut b.narrow b.faulty in
    let split : b.before ++ a.rest ≡ a.before ++ a.rest = ap (λ xs. b.before ++ xs) rest ∙ sym b.split ∙ a.split in
    let before : b.before ≡ a.before = append_cancel_right b.before a.before a.rest split in
    let there : BeginsWithFault b.before a.rest g = subst (λ xs. BeginsWithFault b.before xs g) (sym rest) b.faulty in
    same_fault a.before a.rest f g a.faulty (subst (λ xs. BeginsWithFault xs a.rest g) before there)

-- ---- at least one

-- something stands at the front of a rest
found : (rest : List ℕ) → 0 < length rest → (front : Front) × IsFront rest front
found rest some =
    by (begins_word (get_or rest 0 0)) (is_mark (get_or rest 0 0)) (eqb (get_or rest 0 0) 10) (eqb (get_or rest 0 0) 59) (is_blank (get_or rest 0 0))
    (eqb (get_or rest 0 0) 13 && begins (λ next. eqb next 10) (drop 1 rest)) refl refl refl refl refl refl
  where
    word : begins_word (get_or rest 0 0) ≡ true → (o : Option TokenKind) → narrow (word_kind (take (1 + word_size (drop 1 rest)) rest)) ≡ o → (front : Front) × IsFront rest front
    word w None e = (Wide, word_wide rest (word_size (drop 1 rest)) some w refl e)
    word w (Some kind) e = (Token kind (1 + word_size (drop 1 rest)), word_token rest (word_size (drop 1 rest)) kind some w refl e)

    differs : (n : ℕ) → eqb (get_or rest 0 0) n ≡ false → get_or rest 0 0 ≡ n → ⊥
    differs n e same = let yes = eq-eqb (get_or rest 0 0) n same in cc

    by : (w m f c b r : Bool) → begins_word (get_or rest 0 0) ≡ w → is_mark (get_or rest 0 0) ≡ m → eqb (get_or rest 0 0) 10 ≡ f → eqb (get_or rest 0 0) 59 ≡ c → is_blank (get_or rest 0 0) ≡ b
        → (eqb (get_or rest 0 0) 13 && begins (λ next. eqb next 10) (drop 1 rest)) ≡ r → (front : Front) × IsFront rest front
    by true m f c b r ew em ef ec eb er = word ew (narrow (word_kind (take (1 + word_size (drop 1 rest)) rest))) refl
    by false true f c b r ew em ef ec eb er = (Token (kind.Mark (get_or rest 0 0)) 1, mark_token rest some em)
    by false false true c b r ew em ef ec eb er = (LineEnd, feed_there rest some (eqb-true (get_or rest 0 0) 10 ef))
    by false false false true b r ew em ef ec eb er = (Skipped (1 + line_size (drop 1 rest)), comment_there rest (line_size (drop 1 rest)) some (eqb-true (get_or rest 0 0) 59 ec) refl)
    by false false false false true r ew em ef ec eb er = (Skipped 1, blank_there rest some eb)
    by false false false false false true ew em ef ec eb er = (Skipped 1, return_there rest some er)
    by false false false false false false ew em ef ec eb er = (Foreign, foreign_there rest some ew em (differs 10 ef) (differs 59 ec) eb er)

abbrev pub Answer : List ℕ → Type 0
Answer text = ((tokens : List TheToken) × IsTokens text tokens) ⊎ ((f : LexFault) × IsFirstFault text f)

-- a piece has a byte
some_bytes : (piece : Piece) (rest : List ℕ) → IsPiece piece rest → 0 < length (bytes_of piece)
some_bytes (Blank byte) rest is = omega arith
some_bytes Return rest is = omega arith
some_bytes (Comment bytes) rest is = omega arith
some_bytes (Word []) rest is = let wrong = is.0 in cc
some_bytes (Word (x ∷ xs)) rest is = omega arith
some_bytes (Mark byte) rest is = omega arith
some_bytes Feed rest is = omega arith

module _ (text : List ℕ) where
  ended : (place line start : ℕ) (tokens : List TheToken) → Progress text place line start tokens → length text ≤ place → Answer text
  ended place line start tokens progress past =
      inl (
        tokens,
        record {
          pieces = progress.pieces;
          cut = subst (λ rest. IsCut text progress.pieces rest) (drop_all place text past) progress.cut;
          narrow = progress.narrow;
          same = progress.same;
        },
      )

  foreign : (place line start : ℕ) (tokens : List TheToken) → Progress text place line start tokens → IsFront (drop place text) Foreign → Answer text
  foreign place line start tokens progress (byte, more, split, is) =
      inr (
        fault.Byte (line_after (take place text)) (column_after (take place text)),
        record {
          before = take place text;
          pieces = progress.pieces;
          rest = drop place text;
          split = sym (take-append-drop place text);
          cut = progress.cut;
          narrow = progress.narrow;
          faulty = (byte, more, split, is, refl, refl);
        },
      )

  -- with so many bytes left at most
  answered : (n place line start : ℕ) (tokens : List TheToken) → Progress text place line start tokens → length text ≤ place + n → Answer text
  answered zero place line start tokens progress few = ended place line start tokens progress (omega arith)
  answered (suc n) place line start tokens progress few = by (cases_lt place (length text)) (λ p l s ts h k. answered n p l s ts h k)
    where
      go : (front : Front) → IsFront (drop place text) front → ((p l s : ℕ) (ts : List TheToken) → Progress text p l s ts → length text ≤ p + n → Answer text) → Answer text
      go (Skipped size) is next =
          let there = is.1 in
          let more = some_bytes is.0 (drop size (drop place text)) there.whole in
          let sized = there.sized in
          next (place + size) line start tokens (advance_skipped text place line start tokens progress size is) (omega arith)
      go (Token kind size) is next =
          let there = is.1 in
          let more = some_bytes is.0 (drop size (drop place text)) there.whole in
          let sized = there.sized in
          next (place + size) line start (tokens ++ written kind line place (place + size) ∷ []) (advance_token text place line start tokens progress kind size _ is refl) (omega arith)
      go LineEnd is next =
          next (place + 1) (line + 1) (place + 1) (tokens ++ written kind.LineEnd line place (place + 1) ∷ []) (advance_line text place line start tokens progress _ is refl) (omega arith)
      go Wide is next = inr (fault.Wide line, wide_there text place line start tokens progress is)
      go Foreign is next = foreign place line start tokens progress is

      by : (place < length text) ⊎ (length text ≤ place) → ((p l s : ℕ) (ts : List TheToken) → Progress text p l s ts → length text ≤ p + n → Answer text) → Answer text
      by (inr past) next = ended place line start tokens progress past
      by (inl more) next = let there = found (drop place text) (omega (arith, length-drop place text)) in go there.0 there.1 next

pub some_answer : (text : List ℕ) → Answer text
some_answer text = answered text (length text) 0 1 0 [] (begin text [] refl) (omega arith)
