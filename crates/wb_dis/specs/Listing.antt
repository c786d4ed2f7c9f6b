-- The listing of an image: one line for each program word and then one for each data word, with its address and
-- the word in a comment.
use Rattle.std.specs.Prelude.{ℕ, ◌+◌, List, [], ◌∷◌, ◌++◌, codes}
use Rattle.wb_rom.specs.declared.images.Image.{Image}
use Rattle.wb_dis.specs.Digits.{hex3, hex4, hex6}
use Rattle.wb_dis.specs.Line.{canonical_line}

-- the line of a program word at an address, with its line feed
unfoldable pub program_line : ℕ → ℕ → List ℕ
program_line at word =
    canonical_line word ++ codes "  ; " ++ hex3 at ++ codes " " ++ hex6 word ++ 10 ∷ []

-- the line of a data word at an address, with its line feed
unfoldable pub data_line : ℕ → ℕ → List ℕ
data_line at word = codes ".dw 0x" ++ hex4 word ++ codes "  ; " ++ hex3 at ++ 10 ∷ []

-- the lines of words that stand one after the other from an address on
abbrev pub lines_from : (ℕ → ℕ → List ℕ) → ℕ → List ℕ → List ℕ
lines_from line at [] = []
lines_from line at (word ∷ words) = line at word ++ lines_from line (at + 1) words

-- the listing
unfoldable pub listing : Image → List ℕ
listing image = lines_from program_line 0 image.prog ++ lines_from data_line 0 image.drom
