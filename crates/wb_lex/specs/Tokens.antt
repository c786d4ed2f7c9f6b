-- What the pieces of a text mean: the tokens of the text, or its first fault.
use Rattle.std.specs.Prelude.{◌≡◌, ℕ, ◌+◌, ◌^◌, Bool, false, ◌&&◌, ◌==◌, nat_lt, nat_le, if◌then◌else◌, ⊤, IsTrue, List, [], ◌∷◌, ◌++◌, length, take, drop, codes, count_by, option_map, option_to_list}
use Rattle.std.specs.List.{list_all}
use Rattle.std.specs.Str.{bytes_eq}
use Rattle.std.specs.Str.Parse.{digits_value}
use Rattle.std.specs.Char.{is_digit}
use Rattle.std.specs.declared.option.Option.{Option}
use Rattle.std.specs.declared.option.Option.TheVariants.{Some, None}
use Rattle.wb_lex.specs.declared.tokens.Token.{Token}
use Rattle.wb_lex.specs.declared.tokens.TokenKind.{TokenKind}
use Rattle.wb_lex.specs.declared.tokens.TokenKind.TheVariants as kind
use Rattle.wb_lex.specs.declared.faults.LexFault.{LexFault}
use Rattle.wb_lex.specs.declared.faults.LexFault.TheVariants as fault
use Rattle.wb_lex.specs.Pieces.{Piece, Word, Mark, Feed, bytes_of, begins, IsPiece, IsCut, is_foreign}

-- the number that digits of a base write: one digit at least, and nothing else
abbrev pub numeral : ℕ → List ℕ → Option ℕ
numeral base digits =
    if nat_lt 0 (length digits) && list_all (λ digit. is_digit digit base) digits then Some (digits_value base digits) else None

-- the number that a word writes: hexadecimal digits after `0x`, or decimal digits
abbrev pub number_of : List ℕ → Option ℕ
number_of word = if bytes_eq (take 2 word) (codes "0x") then numeral 16 (drop 2 word) else numeral 10 word

abbrev pub number_kind : Option ℕ → TokenKind
number_kind None = kind.Bad
number_kind (Some number) = kind.Number number

-- a word that begins with a digit is a number, or it is bad; any other is a name
abbrev pub word_kind : List ℕ → TokenKind
word_kind word = if begins (λ byte. is_digit byte 10) word then number_kind (number_of word) else kind.Name

-- what token a piece is, if it is one
abbrev pub token_kind : Piece → Option TokenKind
token_kind (Word bytes) = Some (word_kind bytes)
token_kind (Mark byte) = Some (kind.Mark byte)
token_kind Feed = Some kind.LineEnd
token_kind _ = None

-- a number of 2^32 or more
abbrev pub is_wide_kind : TokenKind → Bool
is_wide_kind (kind.Number number) = nat_le (2 ^ 32) number
is_wide_kind _ = false

abbrev pub is_wide : Option TokenKind → Bool
is_wide None = false
is_wide (Some kind) = is_wide_kind kind

-- no piece is a number that is too large
abbrev pub AreNarrow : List Piece → Type 0
AreNarrow [] = ⊤
AreNarrow (piece ∷ pieces) = (is_wide (token_kind piece) ≡ false) × AreNarrow pieces

-- the line on which the next byte stands, by the bytes before it; lines and columns are counted from 1
abbrev pub line_after : List ℕ → ℕ
line_after before = count_by (λ byte. byte == 10) before + 1

-- how many bytes stand after the last line feed, where so many stand before the first of these
abbrev pub bytes_since_feed : ℕ → List ℕ → ℕ
bytes_since_feed so_far [] = so_far
bytes_since_feed so_far (byte ∷ bytes) = bytes_since_feed (if byte == 10 then 0 else so_far + 1) bytes

-- the column at which the next byte stands
abbrev pub column_after : List ℕ → ℕ
column_after before = bytes_since_feed 0 before + 1

-- a token of this kind, by the bytes before it and its own
abbrev pub token_of : List ℕ → List ℕ → TokenKind → Token
token_of before bytes kind = record {
  kind = kind;
  line = line_after before;
  start = length before;
  end = length before + length bytes;
}

-- the tokens of the pieces that follow these bytes
abbrev pub tokens_from : List ℕ → List Piece → List Token
tokens_from before [] = []
tokens_from before (piece ∷ pieces) =
    option_to_list (option_map (token_of before (bytes_of piece)) (token_kind piece)) ++ tokens_from (before ++ bytes_of piece) pieces

-- these are the tokens of the text
pub record IsTokens (text : List ℕ) (tokens : List Token) : Type 0 where
  pub pieces : List Piece
  pub cut : IsCut text pieces []
  pub narrow : AreNarrow pieces
  pub same : tokens ≡ tokens_from [] pieces

-- the rest of a text begins with this fault, where these bytes stand before it: a byte that may not stand
-- outside comments, or a number that is too large
abbrev pub BeginsWithFault : List ℕ → List ℕ → LexFault → Type 0
BeginsWithFault before rest (fault.Byte line column) =
    (byte : ℕ) × (more : List ℕ) × (rest ≡ byte ∷ more) × IsTrue (is_foreign byte more) × (line ≡ line_after before) × (column ≡ column_after before)
BeginsWithFault before rest (fault.Wide line) =
    (bytes : List ℕ) × (more : List ℕ) × (rest ≡ bytes ++ more) × IsPiece (Word bytes) more × IsTrue (is_wide (token_kind (Word bytes))) × (line ≡ line_after before)
BeginsWithFault before rest fault.OutOfMemory = ⊥

-- this is the first fault of the text: what stands before it is cut into pieces without one
pub record IsFirstFault (text : List ℕ) (fault : LexFault) : Type 0 where
  pub before : List ℕ
  pub pieces : List Piece
  pub rest : List ℕ
  pub split : text ≡ before ++ rest
  pub cut : IsCut text pieces rest
  pub narrow : AreNarrow pieces
  pub faulty : BeginsWithFault before rest fault

-- when a fault may be answered: the first of the text; want of memory is free
abbrev pub IsFaultOf : List ℕ → LexFault → Type 0
IsFaultOf text fault.OutOfMemory = ⊤
IsFaultOf text fault = IsFirstFault text fault
