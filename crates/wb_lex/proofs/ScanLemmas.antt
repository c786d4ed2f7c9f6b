-- How far a scan has come, and what a piece more makes of it.
use Rattle.std.proofs.Common.{◌≡◌, ℕ, ◌+◌, ◌≤◌, Bool, true, false, not, ◌||◌, cond, eqb, Some, List, [], ◌∷◌, ◌++◌, length, take, drop, sym, refl, ap, ◌∙◌, subst, arith, append_assoc}
use Rattle.std.specs.Option.{option_map, option_to_list}
use Rattle.std.specs.List.{list_all, list_any, count_by, flat_map}
use Rattle.std.proofs.lemmas.List.{append-nil, length-append, take-append-drop, drop-drop, length-take-le, length-drop}
use Rattle.std.proofs.lemmas.List.Sums.{sum_by-append}
use Rattle.std.proofs.lemmas.Bool.{eqb-true, and_parts}
use Rattle.std.proofs.Math.Seq.{take-append_seam, take-add}
use Rattle.wb_lex.specs.declared.tokens.Token.{Token as TheToken}
use Rattle.wb_lex.specs.declared.tokens.TokenKind.{TokenKind}
use Rattle.wb_lex.specs.Characters.{is_blank, is_word_character, begins_word, is_mark}
use Rattle.wb_lex.specs.Pieces.{Piece, Blank, Return, Comment, Word, Mark, Feed, bytes_of, IsPiece, IsCut}
use Rattle.wb_lex.specs.declared.faults.LexFault.TheVariants as fault
use Rattle.wb_lex.specs.Tokens.{IsFirstFault, token_kind, is_wide, AreNarrow, line_after, bytes_since_feed, token_of, tokens_from}
use Rattle.wb_lex.specs.declared.tokens.TokenKind.TheVariants as kind
use Rattle.wb_lex.specs.declared.front.Front.TheVariants.{Skipped, Token, LineEnd, Wide}
use Rattle.wb_lex.specs.Scan.{BeginsWith, IsFront}

-- ---- a piece more

cut-push : (text rest more : List ℕ) (pieces : List Piece) (piece : Piece) → IsCut text pieces rest → rest ≡ bytes_of piece ++ more → IsPiece piece more → IsCut text (pieces ++ piece ∷ []) more
cut-push text rest more [] piece cut e is = (more, cut ∙ e, is, refl)
cut-push text rest more (p ∷ pieces) piece cut e is = (cut.0, cut.1, cut.2, cut-push cut.0 rest more pieces piece cut.3 e is)

narrow-push : (pieces : List Piece) (piece : Piece) → AreNarrow pieces → is_wide (token_kind piece) ≡ false → AreNarrow (pieces ++ piece ∷ [])
narrow-push [] piece all one = (one, tt)
narrow-push (p ∷ pieces) piece all one = (all.0, narrow-push pieces piece all.1 one)

-- the token of a piece, as a list
abbrev pub token_at : List ℕ → Piece → List TheToken
token_at before piece = option_to_list (option_map (token_of before (bytes_of piece)) (token_kind piece))

tokens-push : (before : List ℕ) (pieces : List Piece) (piece : Piece) → tokens_from before (pieces ++ piece ∷ []) ≡ tokens_from before pieces ++ token_at (before ++ flat_map bytes_of pieces) piece
tokens-push before [] piece = append-nil (token_at before piece) ∙ ap (λ b. token_at b piece) (sym (append-nil before))
tokens-push before (p ∷ pieces) piece =
    ap (λ ts. token_at before p ++ ts) (tokens-push (before ++ bytes_of p) pieces piece)
    ∙ sym (append_assoc (token_at before p) (tokens_from (before ++ bytes_of p) pieces) (token_at ((before ++ bytes_of p) ++ flat_map bytes_of pieces) piece))
    ∙ ap (λ b. (token_at before p ++ tokens_from (before ++ bytes_of p) pieces) ++ token_at b piece) (append_assoc before (bytes_of p) (flat_map bytes_of pieces))

spelled-push : (pieces : List Piece) (piece : Piece) → flat_map bytes_of (pieces ++ piece ∷ []) ≡ flat_map bytes_of pieces ++ bytes_of piece
spelled-push [] piece = append-nil (bytes_of piece)
spelled-push (p ∷ pieces) piece = ap (λ bs. bytes_of p ++ bs) (spelled-push pieces piece) ∙ sym (append_assoc (bytes_of p) (flat_map bytes_of pieces) (bytes_of piece))

-- ---- lines and columns

abbrev is_feed : ℕ → Bool
is_feed byte = eqb byte 10

abbrev feeds : List ℕ → ℕ
feeds bytes = count_by is_feed bytes

feeds-append : (xs ys : List ℕ) → feeds (xs ++ ys) ≡ feeds xs + feeds ys
feeds-append xs ys = sum_by-append (λ x. cond (is_feed x) 1 0) xs ys

no_feeds : (bytes : List ℕ) → list_any is_feed bytes ≡ false → feeds bytes ≡ 0
no_feeds [] none = refl
no_feeds (x ∷ xs) none = by (is_feed x) refl none (λ h. no_feeds xs h)
  where
    by : (b : Bool) → is_feed x ≡ b → (b || list_any is_feed xs) ≡ false → (list_any is_feed xs ≡ false → feeds xs ≡ 0) → feeds (x ∷ xs) ≡ 0
    by true e none more = cc
    by false e none more = rw e (omega (arith, more none))

since-append : (n : ℕ) (xs ys : List ℕ) → bytes_since_feed n (xs ++ ys) ≡ bytes_since_feed (bytes_since_feed n xs) ys
since-append n [] ys = refl
since-append n (x ∷ xs) ys = since-append (cond (is_feed x) 0 (n + 1)) xs ys

since-none : (n : ℕ) (bytes : List ℕ) → list_any is_feed bytes ≡ false → bytes_since_feed n bytes ≡ n + length bytes
since-none n [] none = omega arith
since-none n (x ∷ xs) none = by (is_feed x) refl none (λ h. since-none (n + 1) xs h)
  where
    by : (b : Bool) → is_feed x ≡ b → (b || list_any is_feed xs) ≡ false → (list_any is_feed xs ≡ false → bytes_since_feed (n + 1) xs ≡ n + 1 + length xs) → bytes_since_feed n (x ∷ xs) ≡ n + length (x ∷ xs)
    by true e none more = cc
    by false e none more = rw e (more none ∙ omega arith)

-- what no line feed passes, no line feed is
other_than_feed : (p : ℕ → Bool) (byte : ℕ) → p 10 ≡ false → p byte ≡ true → is_feed byte ≡ false
other_than_feed p byte fails passes = by (is_feed byte) refl
  where
    by : (b : Bool) → is_feed byte ≡ b → is_feed byte ≡ false
    by true e = let same = ap p (eqb-true byte 10 e) in cc
    by false e = e

one_other : (byte : ℕ) → is_feed byte ≡ false → list_any is_feed (byte ∷ []) ≡ false
one_other byte e = rw e refl

all_other : (p : ℕ → Bool) (bytes : List ℕ) → p 10 ≡ false → list_all p bytes ≡ true → list_any is_feed bytes ≡ false
all_other p [] fails all = refl
all_other p (x ∷ xs) fails all =
    let both = and_parts (p x) (list_all p xs) all in
    rw (other_than_feed p x fails both.0) (all_other p xs fails both.1)

pub not_false : (b : Bool) → not b ≡ true → b ≡ false
not_false true e = sym e
not_false false e = refl

-- a piece other than a line feed has none in it
pub no_feed : (piece : Piece) (rest : List ℕ) → IsPiece piece rest → (piece ≡ Feed → ⊥) → list_any is_feed (bytes_of piece) ≡ false
no_feed (Blank byte) rest is other = one_other byte (other_than_feed is_blank byte refl is)
no_feed Return rest is other = refl
no_feed (Comment bytes) rest is other = not_false (list_any is_feed bytes) is.0
no_feed (Word []) rest is other = refl
no_feed (Word (x ∷ xs)) rest is other =
    let both = and_parts (begins_word x) (list_all is_word_character xs) is.0 in
    rw (other_than_feed begins_word x refl both.0) (all_other is_word_character xs refl both.1)
no_feed (Mark byte) rest is other = one_other byte (other_than_feed is_mark byte refl is)
no_feed Feed rest is other = absurd (other refl)

-- ---- how far the scan has come

-- a token of these parts
abbrev pub written : TokenKind → ℕ → ℕ → ℕ → TheToken
written kind line start end = record { kind = kind; line = line; start = start; end = end }

pub record Progress (text : List ℕ) (place line line_start : ℕ) (tokens : List TheToken) : Type 0 where
  pub within : place ≤ length text
  pub pieces : List Piece
  pub cut : IsCut text pieces (drop place text)
  pub narrow : AreNarrow pieces
  pub spelled : flat_map bytes_of pieces ≡ take place text
  pub same : tokens ≡ tokens_from [] pieces
  pub line_is : line ≡ line_after (take place text)
  pub few_lines : line ≤ place + 1
  pub start_is : line_start + bytes_since_feed 0 (take place text) ≡ place

pub begin : (text : List ℕ) (tokens : List TheToken) → tokens ≡ [] → Progress text 0 1 0 tokens
begin text tokens none = record {
  within = omega arith;
  pieces = [];
  cut = refl;
  narrow = tt;
  spelled = refl;
  same = none;
  line_is = refl;
  few_lines = omega arith;
  start_is = refl;
}

-- what stands before the place, once a piece is behind it
record Passed (text : List ℕ) (place size : ℕ) (piece : Piece) : Type 0 where
  before : take (place + size) text ≡ take place text ++ bytes_of piece
  rest : drop size (drop place text) ≡ drop (place + size) text
  within : place + size ≤ length text

pass : (text : List ℕ) (place size : ℕ) (piece : Piece) → place ≤ length text → BeginsWith (drop place text) size piece → Passed text place size piece
pass text place size piece within there =
    let sized = there.sized in
    let front : take size (drop place text) ≡ bytes_of piece =
    ap (take size) there.split ∙ ap (λ n. take n (bytes_of piece ++ drop size (drop place text))) sized ∙ take-append_seam (bytes_of piece) (drop size (drop place text)) in
    let long = ap length there.split ∙ length-append (bytes_of piece) (drop size (drop place text)) in
    record {
      before = take-add place size text ∙ ap (λ bs. take place text ++ bs) front;
      rest = drop-drop size place text;
      within = omega (arith, length-drop place text);
    }

module _ (text : List ℕ) (place line line_start : ℕ) (tokens : List TheToken) (progress : Progress text place line line_start tokens) where
  same_tokens : (piece : Piece) → tokens ++ token_at (take place text) piece ≡ tokens_from [] (progress.pieces ++ piece ∷ [])
  same_tokens piece =
      ap (λ ts. ts ++ token_at (take place text) piece) progress.same
      ∙ ap (λ bs. tokens_from [] progress.pieces ++ token_at bs piece) (sym progress.spelled)
      ∙ sym (tokens-push [] progress.pieces piece)

  -- a piece more, other than a line feed
  advance : (size : ℕ) (piece : Piece) (more : List TheToken) → BeginsWith (drop place text) size piece → is_wide (token_kind piece) ≡ false → (piece ≡ Feed → ⊥)
      → more ≡ tokens ++ token_at (take place text) piece → Progress text (place + size) line line_start more
  advance size piece more there small other grown =
      let passed = pass text place size piece progress.within there in
      let none = no_feed piece (drop size (drop place text)) there.whole other in
      let few = progress.few_lines in
      let start = progress.start_is in
      let sized = there.sized in
      record {
        within = passed.within;
        pieces = progress.pieces ++ piece ∷ [];
        cut = subst (λ rest. IsCut text (progress.pieces ++ piece ∷ []) rest) passed.rest (cut-push text (drop place text) (drop size (drop place text)) progress.pieces piece progress.cut there.split there.whole);
        narrow = narrow-push progress.pieces piece progress.narrow small;
        spelled = spelled-push progress.pieces piece ∙ ap (λ bs. bs ++ bytes_of piece) progress.spelled ∙ sym passed.before;
        same = grown ∙ same_tokens piece;
        line_is =
            progress.line_is ∙ sym (ap (λ n. n + 1) (ap feeds passed.before ∙ feeds-append (take place text) (bytes_of piece) ∙ rw (no_feeds (bytes_of piece) none) (omega arith)));
        few_lines = omega arith;
        start_is =
            let since = ap (bytes_since_feed 0) passed.before ∙ since-append 0 (take place text) (bytes_of piece) ∙ since-none (bytes_since_feed 0 (take place text)) (bytes_of piece) none in
            omega arith;
      }

  -- a line feed more
  advance_feed : (more : List TheToken) → BeginsWith (drop place text) 1 Feed → more ≡ tokens ++ token_at (take place text) Feed → Progress text (place + 1) (line + 1) (place + 1) more
  advance_feed more there grown =
      let passed = pass text place 1 Feed progress.within there in
      let few = progress.few_lines in
      record {
        within = passed.within;
        pieces = progress.pieces ++ Feed ∷ [];
        cut = subst (λ rest. IsCut text (progress.pieces ++ Feed ∷ []) rest) passed.rest (cut-push text (drop place text) (drop 1 (drop place text)) progress.pieces Feed progress.cut there.split there.whole);
        narrow = narrow-push progress.pieces Feed progress.narrow refl;
        spelled = spelled-push progress.pieces Feed ∙ ap (λ bs. bs ++ 10 ∷ []) progress.spelled ∙ sym passed.before;
        same = grown ∙ same_tokens Feed;
        line_is = ap (λ n. n + 1) (progress.line_is ∙ sym (ap feeds passed.before ∙ feeds-append (take place text) (10 ∷ [])));
        few_lines = omega arith;
        start_is =
            let since = ap (bytes_since_feed 0) passed.before ∙ since-append 0 (take place text) (10 ∷ []) in
            omega arith;
      }

  -- the token at this place, as the scanner writes it
  token_is : (piece : Piece) (kind : TokenKind) (size : ℕ) → size ≡ length (bytes_of piece)
      → written kind line place (place + size) ≡ token_of (take place text) (bytes_of piece) kind
  token_is piece kind size sized =
      let long = length-take-le place text progress.within in
      ap (λ n. written kind n place (place + size)) progress.line_is
      ∙ ap (λ n. written kind (line_after (take place text)) n (n + size)) (sym long)
      ∙ ap (λ n. written kind (line_after (take place text)) (length (take place text)) (length (take place text) + n)) sized

  pub advance_skipped : (size : ℕ) → IsFront (drop place text) (Skipped size) → Progress text (place + size) line line_start tokens
  advance_skipped size (piece, there, none) =
      advance size piece tokens there (rw none refl) (λ feed. let some : token_kind piece ≡ Some kind.LineEnd = ap token_kind feed in cc)
      (rw none (sym (append-nil tokens)))

  pub advance_token : (kind : TokenKind) (size : ℕ) (more : List TheToken) → IsFront (drop place text) (Token kind size) → more ≡ tokens ++ written kind line place (place + size) ∷ []
      → Progress text (place + size) line line_start more
  advance_token kind size more (piece, there, some, small, other) grown =
      advance size piece more there (rw some small) other
      (grown ∙ rw some (ap (λ t. tokens ++ t ∷ []) (token_is piece kind size there.sized)))

  pub advance_line : (more : List TheToken) → IsFront (drop place text) LineEnd → more ≡ tokens ++ written kind.LineEnd line place (place + 1) ∷ []
      → Progress text (place + 1) (line + 1) (place + 1) more
  advance_line more there grown = advance_feed more there (grown ∙ ap (λ t. tokens ++ t ∷ []) (token_is Feed kind.LineEnd 1 refl))

  -- a token that is too large
  pub wide_there : IsFront (drop place text) Wide → IsFirstFault text (fault.Wide line)
  wide_there (bytes, more, split, whole, wide) = record {
    before = take place text;
    pieces = progress.pieces;
    rest = drop place text;
    split = sym (take-append-drop place text);
    cut = progress.cut;
    narrow = progress.narrow;
    faulty = (bytes, more, split, whole, wide, progress.line_is);
  }
