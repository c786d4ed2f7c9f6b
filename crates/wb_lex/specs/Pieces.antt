-- How a text is cut into pieces, before anything is made of them.
use Rattle.std.specs.Prelude.{◌≡◌, ℕ, Bool, false, not, ◌&&◌, ◌||◌, ◌==◌, ⊤, IsTrue, List, [], ◌∷◌, ◌++◌}
use Rattle.std.specs.List.{list_any, list_all}
use Rattle.wb_lex.specs.Characters.{is_blank, is_word_character, begins_word, is_mark}

pub data Piece : Type 0 where
  -- a space or a tab
  Blank : ℕ → Piece
  -- a carriage return right before a line feed
  Return : Piece
  -- a comment, given without its semicolon
  Comment : List ℕ → Piece
  -- a name or a number, or what would be one
  Word : List ℕ → Piece
  -- a byte that is a token by itself
  Mark : ℕ → Piece
  -- a line feed
  Feed : Piece

-- the bytes of a piece
abbrev pub bytes_of : Piece → List ℕ
bytes_of (Blank byte) = byte ∷ []
bytes_of Return = 13 ∷ []
bytes_of (Comment bytes) = 59 ∷ bytes
bytes_of (Word bytes) = bytes
bytes_of (Mark byte) = byte ∷ []
bytes_of Feed = 10 ∷ []

-- the rest of a text begins with a byte of this kind
abbrev pub begins : (ℕ → Bool) → List ℕ → Bool
begins test [] = false
begins test (byte ∷ rest) = test byte

-- the text ends here, or a line feed comes
abbrev pub ends_line : List ℕ → Bool
ends_line [] = Bool.true
ends_line (byte ∷ rest) = byte == 10

-- the first byte may begin a word, and the others go on with it
abbrev pub is_word : List ℕ → Bool
is_word [] = false
is_word (byte ∷ bytes) = begins_word byte && list_all is_word_character bytes

-- these bytes are a piece, where this is the rest of the text after them. So a word is cut only where it ends,
-- and a comment goes on up to the end of its line
abbrev pub IsPiece : Piece → List ℕ → Type 0
IsPiece (Blank byte) rest = IsTrue (is_blank byte)
IsPiece Return rest = IsTrue (begins (λ byte. byte == 10) rest)
IsPiece (Comment bytes) rest = IsTrue (not (list_any (λ byte. byte == 10) bytes)) × IsTrue (ends_line rest)
IsPiece (Word bytes) rest = IsTrue (is_word bytes) × IsTrue (not (begins is_word_character rest))
IsPiece (Mark byte) rest = IsTrue (is_mark byte)
IsPiece Feed rest = ⊤

-- the text is these pieces, one after the other, and then this rest
abbrev pub IsCut : List ℕ → List Piece → List ℕ → Type 0
IsCut text [] rest = text ≡ rest
IsCut text (piece ∷ pieces) rest = (more : List ℕ) × (text ≡ bytes_of piece ++ more) × IsPiece piece more × IsCut more pieces rest

-- no piece begins with this byte, where this is the rest of the text after it
abbrev pub is_foreign : ℕ → List ℕ → Bool
is_foreign byte rest =
    not (is_blank byte || begins_word byte || is_mark byte || byte == 59 || byte == 10
    || (byte == 13 && begins (λ next. next == 10) rest))
