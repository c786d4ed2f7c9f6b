-- The text of a trace: one line for each move, two where the registers are shown, and then `DONE`.
use Rattle.std.specs.Prelude.{ℕ, ◌+◌, ◌/◌, ◌%◌, nat_lt, if◌then◌else◌, List, [], ◌∷◌, ◌++◌, codes}
use Rattle.std.specs.List.{flat_map}
use Rattle.wb_word.specs.declared.sides.Side.{Side}
use Rattle.wb_word.specs.declared.sides.Side.TheVariants.{A, B}
use Rattle.wb_rom.specs.declared.images.Image.{Image}
use Rattle.wb_machine.specs.declared.registers.Regs.{Regs}
use Rattle.wb_trace.specs.declared.moves.Move.{Move}
use Rattle.wb_trace.specs.declared.moves.Move.TheVariants as move
use Rattle.wb_trace.specs.declared.answers.Moved.{Moved}
use Rattle.wb_trace.specs.declared.answers.Moved.TheVariants.{Stepped, Bytes, Wrote, Undone, Nothing, Busy, Shown}
use Rattle.wb_trace.specs.declared.answers.Line.{Line}
use Rattle.wb_trace.specs.Standing.{answers, begun}

-- a hexadecimal digit, in capitals: `0` is 48, and `A` is 65
abbrev pub hex_digit : ℕ → ℕ
hex_digit value = if nat_lt value 10 then 48 + value else 55 + value

-- the low 8, 12 or 16 bits of a number, as two, three or four hexadecimal digits
abbrev pub hex_byte : ℕ → List ℕ
hex_byte byte = hex_digit (byte / 16 % 16) ∷ hex_digit (byte % 16) ∷ []

abbrev pub hex_address : ℕ → List ℕ
hex_address at = hex_digit (at / 256 % 16) ∷ hex_byte at

abbrev pub hex_word : ℕ → List ℕ
hex_word word = hex_byte (word / 256) ++ hex_byte word

abbrev pub letter : Side → ℕ
letter A = 65
letter B = 66

-- bytes that were read: those of the status registers, or of the data registers
abbrev pub read_letter : Move → ℕ
read_letter move.Status = 83
read_letter _ = 82

-- the program counter, DR, SR and the accumulators of a side
abbrev pub shown : Side → Regs → List ℕ
shown side regs =
    codes "P " ++ (letter side ∷ []) ++ codes " " ++ hex_address regs.pc
    ++ codes " " ++ hex_word regs.dr ++ codes " " ++ hex_word regs.sr
    ++ codes " " ++ hex_word regs.a ++ codes " " ++ hex_word regs.b

-- what came of a move, without the line feed at the end
abbrev pub line_text : Move → Moved → List ℕ
line_text _ (Stepped side at) = (letter side ∷ []) ++ codes " " ++ hex_address at.value
line_text move (Bytes first second) =
    (read_letter move ∷ []) ++ codes " " ++ hex_byte first ++ codes " " ++ hex_byte second
line_text _ (Wrote byte) = codes "W " ++ hex_byte byte
line_text _ Undone = codes "U"
line_text _ Nothing = codes "NOTHING"
line_text _ (Busy side) = codes "BUSY " ++ (letter side ∷ [])
line_text _ (Shown first second) = shown A first ++ (10 ∷ []) ++ shown B second

-- a text and its line feed
abbrev pub with_feed : List ℕ → List ℕ
with_feed text = text ++ (10 ∷ [])

-- the lines in order
abbrev pub lines_text : List Line → List ℕ
lines_text lines = flat_map (λ line. with_feed (line_text line.mv line.moved)) lines

-- the whole text for some moves on two images
abbrev pub trace_bytes : Image → Image → ℕ → List Move → List ℕ
trace_bytes a b depth moves = lines_text (answers a b depth moves begun) ++ with_feed (codes "DONE")
