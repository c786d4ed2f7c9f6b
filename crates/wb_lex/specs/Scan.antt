-- What the scanner finds at the front of a rest of a text. No public clause cites this.
use Rattle.std.specs.Prelude.{◌≡◌, ℕ, false, if◌then◌else◌, IsTrue, List, ◌∷◌, ◌++◌, length, drop}
use Rattle.std.specs.declared.option.Option.{Option}
use Rattle.std.specs.declared.option.Option.TheVariants.{Some, None}
use Rattle.wb_lex.specs.declared.tokens.TokenKind.{TokenKind}
use Rattle.wb_lex.specs.declared.front.Front.{Front}
use Rattle.wb_lex.specs.declared.front.Front.TheVariants.{Skipped, Token, LineEnd, Wide, Foreign}
use Rattle.wb_lex.specs.Pieces.{Piece, Word, Feed, bytes_of, IsPiece, is_foreign}
use Rattle.wb_lex.specs.Tokens.{token_kind, is_wide, is_wide_kind}

-- the kind of a token, where it isn't a number that is too large
abbrev pub narrow : TokenKind → Option TokenKind
narrow kind = if is_wide_kind kind then None else Some kind

-- so many bytes at the front are this piece
pub record BeginsWith (rest : List ℕ) (size : ℕ) (piece : Piece) : Type 0 where
  pub split : rest ≡ bytes_of piece ++ drop size rest
  pub whole : IsPiece piece (drop size rest)
  pub sized : size ≡ length (bytes_of piece)

abbrev pub IsFront : List ℕ → Front → Type 0
IsFront rest (Skipped size) = (piece : Piece) × BeginsWith rest size piece × (token_kind piece ≡ None)
IsFront rest (Token kind size) =
    (piece : Piece) × BeginsWith rest size piece × (token_kind piece ≡ Some kind) × (is_wide_kind kind ≡ false) × (piece ≡ Feed → ⊥)
IsFront rest LineEnd = BeginsWith rest 1 Feed
IsFront rest Wide = (bytes more : List ℕ) × (rest ≡ bytes ++ more) × IsPiece (Word bytes) more × IsTrue (is_wide (token_kind (Word bytes)))
IsFront rest Foreign = (byte : ℕ) × (more : List ℕ) × (rest ≡ byte ∷ more) × IsTrue (is_foreign byte more)
