-- The text of a transcript.
use Rattle.std.specs.Prelude.{ℕ, ◌+◌, ◌/◌, ◌%◌, nat_lt, if◌then◌else◌, List, [], ◌∷◌, ◌++◌, codes, decimal}
use Rattle.std.specs.List.{flat_map}
use Rattle.wb_session.specs.declared.transcripts.Line.{Line}
use Rattle.wb_session.specs.declared.transcripts.Line.TheVariants.{Waited, Stepped, Status, Read, Wrote}
use Rattle.wb_session.specs.declared.transcripts.Ended.{Ended}
use Rattle.wb_session.specs.declared.transcripts.Ended.TheVariants.{Done, Early, Silent}
use Rattle.wb_session.specs.declared.transcripts.Transcript.{Transcript}

-- a hexadecimal digit, in capitals: `0` is 48, and `A` is 65
abbrev pub hex_digit : ℕ → ℕ
hex_digit value = if nat_lt value 10 then 48 + value else 55 + value

-- a byte as two hexadecimal digits
abbrev pub hex_byte : ℕ → List ℕ
hex_byte byte = hex_digit (byte / 16) ∷ hex_digit (byte % 16) ∷ []

-- a line without its line feed
abbrev pub line_text : Line → List ℕ
line_text (Waited count) = codes "WAIT " ++ decimal count
line_text (Stepped count) = codes "STEP " ++ decimal count
line_text (Status byte) = codes "S " ++ hex_byte byte
line_text (Read byte) = codes "R " ++ hex_byte byte
line_text (Wrote byte) = codes "W " ++ hex_byte byte

-- the last line without its line feed
abbrev pub ended_text : Ended → List ℕ
ended_text Done = codes "DONE"
ended_text (Early number) = codes "EARLY " ++ decimal number
ended_text (Silent number) = codes "SILENT " ++ decimal number

-- a text and its line feed
abbrev pub with_feed : List ℕ → List ℕ
with_feed text = text ++ (10 ∷ [])

-- the lines in order, and then how it ended
abbrev pub transcript_bytes : Transcript → List ℕ
transcript_bytes t = flat_map (λ line. with_feed (line_text line)) t.lines ++ with_feed (ended_text t.ended)
