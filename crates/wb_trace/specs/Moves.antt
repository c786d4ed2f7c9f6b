-- Which texts are moves files, of which moves, and which line is the first bad one of a text that is none.
use Rattle.std.specs.Prelude.{◌≡◌, ℕ, ◌+◌, ◌*◌, ◌≤◌, Bool, ◌&&◌, ◌==◌, if◌then◌else◌, ◌⊎◌, ⊤, List, [], ◌∷◌, length, take, map, slice_get, codes}
use Rattle.std.specs.List.{slice_split}
use Rattle.std.specs.Str.{bytes_eq}
use Rattle.std.specs.Char.{is_digit, digit_value}
use Rattle.std.specs.declared.option.Option.{Option}
use Rattle.std.specs.declared.option.Option.TheVariants.{Some, None}
use Rattle.wb_trace.specs.declared.moves.Move.{Move}
use Rattle.wb_trace.specs.declared.moves.Move.TheVariants.{StepA, StepB, Status, Read, Write, Undo, Show}
use Rattle.wb_trace.specs.declared.reader.MovesFault.{MovesFault}
use Rattle.wb_trace.specs.declared.reader.MovesFault.TheVariants.{BadLine, OutOfMemory}

-- a line feed
abbrev pub is_feed : ℕ → Bool
is_feed byte = byte == 10

-- the pieces between line feeds, but for an empty one at the end
abbrev pub without_empty_end : List (List ℕ) → List (List ℕ)
without_empty_end [] = []
without_empty_end (last ∷ []) = if length last == 0 then [] else last ∷ []
without_empty_end (piece ∷ next ∷ more) = piece ∷ without_empty_end (next ∷ more)

-- the lines of a text, each without its line feed, which the last may lack
abbrev pub lines : List ℕ → List (List ℕ)
lines text = without_empty_end (slice_split is_feed text)

-- the byte that two hexadecimal digits write, of either case
abbrev pub byte_of : ℕ → ℕ → Option ℕ
byte_of high low =
    if is_digit high 16 && is_digit low 16 then Some (digit_value high * 16 + digit_value low)
    else None

-- a line `W hh` is a write
abbrev pub written : Option ℕ → Option Move
written (Some byte) = Some (Write byte)
written None = None

abbrev pub write_of : List ℕ → Option Move
write_of (letter ∷ blank ∷ high ∷ low ∷ []) =
    if letter == 87 && blank == 32 then written (byte_of high low) else None
write_of _ = None

-- the move of a line; None: no moves file has such a line
unfoldable pub move_of : List ℕ → Option Move
move_of line =
    if bytes_eq line (codes "A") then Some StepA
    else if bytes_eq line (codes "B") then Some StepB
    else if bytes_eq line (codes "S") then Some Status
    else if bytes_eq line (codes "R") then Some Read
    else if bytes_eq line (codes "U") then Some Undo
    else if bytes_eq line (codes "P") then Some Show
    else write_of line

-- the most lines that a moves file has
abbrev pub most_lines : ℕ
most_lines = 65536

-- the text is a moves file of these moves, one to a line
pub record AreMovesOf (text : List ℕ) (moves : List Move) : Type 0 where
  pub moves_are : map move_of (lines text) ≡ map Some moves
  pub few : length moves ≤ most_lines

-- why a line is bad after so many moves: it is no move, or one line too many
abbrev pub IsBad : Option Move → ℕ → Type 0
IsBad said count = (said ≡ None) ⊎ (most_lines ≤ count)

-- the line at this place, counted from 0, is no move, or is one line too many, and those before it are moves
pub record IsBadAt (said : List (Option Move)) (place : ℕ) : Type 0 where
  pub earlier : List Move
  pub earlier_are : take place said ≡ map Some earlier
  pub line : Option Move
  pub found : slice_get said place ≡ Some line
  pub bad : IsBad line place
  pub within : place ≤ most_lines

-- the number of the first bad line of a text, counted from 1
abbrev pub IsFirstBad : List ℕ → ℕ → Type 0
IsFirstBad text line = (place : ℕ) × (line ≡ place + 1) × IsBadAt (map move_of (lines text)) place

-- when a fault may be answered; want of memory is free
abbrev pub IsFaultOf : List ℕ → MovesFault → Type 0
IsFaultOf text (BadLine line) = IsFirstBad text line
IsFaultOf text OutOfMemory = ⊤

-- Every text is a moves file or has a first bad line, and never both; its moves or that line are determined.
pub record EachTextHasOneAnswer : Type 0 where
  pub some : (text : List ℕ) → ((moves : List Move) × AreMovesOf text moves) ⊎ ((line : ℕ) × IsFirstBad text line)
  pub never_both : (text : List ℕ) (moves : List Move) (line : ℕ) → AreMovesOf text moves → IsFirstBad text line → ⊥
  pub one_list : (text : List ℕ) (moves others : List Move) → AreMovesOf text moves → AreMovesOf text others → moves ≡ others
  pub one_line : (text : List ℕ) (line other : ℕ) → IsFirstBad text line → IsFirstBad text other → line ≡ other
