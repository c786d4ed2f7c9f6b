-- The text of a dialogue: a line for each word of its start that isn't 0, then one for each access.
use Rattle.std.specs.Prelude.{ℕ, ◌+◌, ◌==◌, if◌then◌else◌, Option, Some, None, List, [], ◌∷◌, ◌++◌, codes, slice_get}
use Rattle.wb_port.specs.declared.accesses.Access.{Access}
use Rattle.wb_port.specs.declared.accesses.Access.TheVariants as access
use Rattle.wb_port.specs.Talk.{Talk}
use Rattle.wb_report.specs.Digits.{hex_byte, hex_word, with_feed}
use Rattle.wb_report.specs.declared.heard.Heard.{Heard}
use Rattle.wb_report.specs.declared.heard.Heard.TheVariants as heard

-- a word of the start, which is left out where it is 0
abbrev pub start_line : ℕ → ℕ → List ℕ
start_line at word =
    if word == 0 then [] else with_feed (codes "M " ++ hex_byte at ++ codes " " ++ hex_word word)

-- the words of the start from an address on
abbrev pub start_lines : ℕ → List ℕ → List ℕ
start_lines at [] = []
start_lines at (word ∷ words) = start_line at word ++ start_lines (at + 1) words

-- a reply after a space, or nothing where none was given
abbrev pub reply_text : Option ℕ → List ℕ
reply_text None = []
reply_text (Some byte) = codes " " ++ hex_byte byte

-- the replies to a read or status read, by how many of them stand before it: that of one side, or A's and B's
abbrev pub replies_text : Heard → ℕ → List ℕ
replies_text (heard.One said) before = reply_text (slice_get said before)
replies_text (heard.Both first second) before =
    reply_text (slice_get first before) ++ reply_text (slice_get second before)

-- an access, without its line feed
abbrev pub access_line : Heard → ℕ → Access → List ℕ
access_line heard before (access.Write byte) = codes "W " ++ hex_byte byte
access_line heard before access.Read = codes "R" ++ replies_text heard before
access_line heard before access.Status = codes "S" ++ replies_text heard before

-- for how many bytes an access asks
abbrev pub asked : Access → ℕ
asked (access.Write byte) = 0
asked access.Read = 1
asked access.Status = 1

-- the accesses, before which so many reads and status reads stand
abbrev pub access_lines : Heard → ℕ → List Access → List ℕ
access_lines heard before [] = []
access_lines heard before (a ∷ rest) =
    with_feed (access_line heard before a) ++ access_lines heard (before + asked a) rest

abbrev pub dialogue_text : Heard → Talk → List ℕ
dialogue_text heard d = start_lines 0 d.start ++ access_lines heard 0 d.accesses
