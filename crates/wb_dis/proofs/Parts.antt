-- Lines as the parts that their words and marks are.
use Rattle.std.proofs.Common.{◌≡◌, ℕ, ◌+◌, false, List, [], ◌∷◌, ◌++◌, length, refl, sym, ap, ◌∙◌, subst, arith, append_assoc}
use Rattle.std.specs.List.{slice_range}
use Rattle.std.proofs.lemmas.Grind.{common_steps}
use Rattle.wb_lex.specs.declared.tokens.Token.{Token}
use Rattle.wb_lex.specs.declared.tokens.TokenKind.TheVariants as kind
use Rattle.wb_lex.specs.Pieces.{Piece, Blank, Word, Mark, bytes_of, IsPiece, IsCut}
use Rattle.wb_lex.specs.Tokens.{word_kind, is_wide_kind, is_wide, token_kind, AreNarrow, token_of, tokens_from}
use Rattle.wb_syntax.specs.Spelling.{Says}

pub data Part : Type 0 where
  -- a name
  Named : List ℕ → Part
  -- a number, and how it is written
  Numbered : List ℕ → ℕ → Part
  -- a mark
  Marked : ℕ → Part
  -- a space
  Gap : Part

abbrev pub piece_of : Part → Piece
piece_of (Named word) = Word word
piece_of (Numbered word n) = Word word
piece_of (Marked mark) = Mark mark
piece_of Gap = Blank 32

abbrev pub text_of : List Part → List ℕ
text_of [] = []
text_of (part ∷ parts) = bytes_of (piece_of part) ++ text_of parts

abbrev pub pieces_of : List Part → List Piece
pieces_of [] = []
pieces_of (part ∷ parts) = piece_of part ∷ pieces_of parts

-- the part is what it says, where this text follows
abbrev pub IsPart : Part → List ℕ → Type 0
IsPart (Named word) rest = IsPiece (Word word) rest × (word_kind word ≡ kind.Name)
IsPart (Numbered word n) rest = IsPiece (Word word) rest × (word_kind word ≡ kind.Number n) × (is_wide_kind (word_kind word) ≡ false)
IsPart (Marked mark) rest = IsPiece (Mark mark) rest
IsPart Gap rest = Unit {0}

abbrev pub AreParts : List Part → List ℕ → Type 0
AreParts [] rest = Unit {0}
AreParts (part ∷ parts) rest = IsPart part (text_of parts ++ rest) × AreParts parts rest

part_piece : (part : Part) (rest : List ℕ) → IsPart part rest → IsPiece (piece_of part) rest
part_piece (Named word) rest h = h.0
part_piece (Numbered word n) rest h = h.0
part_piece (Marked mark) rest h = h
part_piece Gap rest h = refl

part_narrow : (part : Part) (rest : List ℕ) → IsPart part rest → is_wide (token_kind (piece_of part)) ≡ false
part_narrow (Named word) rest h = ap is_wide_kind h.1
part_narrow (Numbered word n) rest h = h.2
part_narrow (Marked mark) rest h = refl
part_narrow Gap rest h = refl

-- parts are a cut of their text
pub parts_cut : (parts : List Part) (rest : List ℕ) → AreParts parts rest → IsCut (text_of parts ++ rest) (pieces_of parts) rest
parts_cut [] rest h = refl
parts_cut (part ∷ parts) rest h =
    (text_of parts ++ rest, append_assoc (bytes_of (piece_of part)) (text_of parts) rest, part_piece part (text_of parts ++ rest) h.0, parts_cut parts rest h.1)

pub parts_narrow : (parts : List Part) (rest : List ℕ) → AreParts parts rest → AreNarrow (pieces_of parts)
parts_narrow [] rest h = tt
parts_narrow (part ∷ parts) rest h = (part_narrow part (text_of parts ++ rest) h.0, parts_narrow parts rest h.1)

pub cut_append : (text middle rest : List ℕ) (first second : List Piece) → IsCut text first middle → IsCut middle second rest → IsCut text (first ++ second) rest
cut_append text middle rest [] second h k = subst (λ (t : List ℕ). IsCut t second rest) (sym h) k
cut_append text middle rest (piece ∷ first) second (more, e, is, h) k = (more, e, is, cut_append more middle rest first second h k)

pub narrow_append : (first second : List Piece) → AreNarrow first → AreNarrow second → AreNarrow (first ++ second)
narrow_append [] second h k = k
narrow_append (piece ∷ first) second h k = (h.0, narrow_append first second h.1 k)

-- what a token of a line is
pub data Sign : Type 0 where
  Name : List ℕ → Sign
  Number : ℕ → Sign
  Sole : ℕ → Sign

abbrev pub signs_of : List Part → List Sign
signs_of [] = []
signs_of (Named word ∷ parts) = Name word ∷ signs_of parts
signs_of (Numbered word n ∷ parts) = Number n ∷ signs_of parts
signs_of (Marked mark ∷ parts) = Sole mark ∷ signs_of parts
signs_of (Gap ∷ parts) = signs_of parts

abbrev pub Shows : List ℕ → Token → Sign → Type 0
Shows text token (Name word) = Says text token word
Shows text token (Number n) = token.kind ≡ kind.Number n
Shows text token (Sole mark) = token.kind ≡ kind.Mark mark

abbrev pub Show : List ℕ → List Token → List Sign → Type 0
Show text [] [] = Unit {0}
Show text [] (sign ∷ signs) = ⊥
Show text (token ∷ tokens) [] = ⊥
Show text (token ∷ tokens) (sign ∷ signs) = Shows text token sign × Show text tokens signs

slice_middle : (before word rest : List ℕ) → slice_range (before ++ (word ++ rest)) (length before) (length before + length word) ≡ word
slice_middle before word rest = grind (arith, common_steps)

token_says : (text before word rest : List ℕ) → text ≡ before ++ (word ++ rest) → word_kind word ≡ kind.Name
    → Says text (token_of before word (word_kind word)) word
token_says text before word rest e named = record {
  is_name = named;
  same = ap (λ (t : List ℕ). slice_range t (length before) (length before + length word)) e ∙ slice_middle before word rest;
}

-- the tokens of parts are what they say
pub parts_show : (parts : List Part) (text before rest : List ℕ) → text ≡ before ++ (text_of parts ++ rest) → AreParts parts rest
    → Show text (tokens_from before (pieces_of parts)) (signs_of parts)
parts_show [] text before rest e h = tt
parts_show (Named word ∷ parts) text before rest e h = (
  token_says text before word (text_of parts ++ rest) (e ∙ ap (λ (t : List ℕ). before ++ t) (append_assoc word (text_of parts) rest)) h.0.1,
  parts_show parts text (before ++ word) rest (e ∙ ap (λ (t : List ℕ). before ++ t) (append_assoc word (text_of parts) rest) ∙ sym (append_assoc before word (text_of parts ++ rest))) h.1,
)
parts_show (Numbered word n ∷ parts) text before rest e h = (
  h.0.1,
  parts_show parts text (before ++ word) rest (e ∙ ap (λ (t : List ℕ). before ++ t) (append_assoc word (text_of parts) rest) ∙ sym (append_assoc before word (text_of parts ++ rest))) h.1,
)
parts_show (Marked mark ∷ parts) text before rest e h =
    (refl, parts_show parts text (before ++ mark ∷ []) rest (e ∙ sym (append_assoc before (mark ∷ []) (text_of parts ++ rest))) h.1)
parts_show (Gap ∷ parts) text before rest e h =
    parts_show parts text (before ++ 32 ∷ []) rest (e ∙ sym (append_assoc before (32 ∷ []) (text_of parts ++ rest))) h.1
