-- A memory that is being laid out.
use Rattle.std.specs.Prelude.{ℕ, zero, suc, ◌+◌, ◌≤◌, nat_le, Bool, true, false, if◌then◌else◌, List, length, replicate, slice_index_or, slice_set}
use Rattle.std.specs.Option.{option_or}
use Rattle.std.specs.declared.option.Option.{Option}
use Rattle.std.specs.declared.option.Option.TheVariants.{Some, None}
use Rattle.wb_asm.specs.declared.faults.AsmKind.{AsmKind}
use Rattle.wb_asm.specs.declared.faults.AsmKind.TheVariants.{Overlap, Past}

-- where the next word goes, and whether a word stands at each place
pub record Space : Type 0 where
  pub at : ℕ
  pub taken : List Bool

-- a memory of so many places, at its first place and without a word
unfoldable pub empty : ℕ → Space
empty size = record { at = 0; taken = replicate size false }

-- with a word at the next place
abbrev pub with_word : Space → Space
with_word space = record { at = space.at + 1; taken = slice_set space.taken space.at true }

-- why no word may be placed next: the memory has no such place, or a word stands there
abbrev pub word_fault : Space → Option AsmKind
word_fault space =
    if nat_le (length space.taken) space.at then Some Past
    else if slice_index_or space.taken space.at false then Some Overlap
    else None

-- with so many words, one after the other
abbrev pub with_words : ℕ → Space → Space
with_words zero space = space
with_words (suc more) space = with_words more (with_word space)

-- why one of so many words may not be placed, the first of them first
abbrev pub words_fault : ℕ → Space → Option AsmKind
words_fault zero space = None
words_fault (suc more) space = option_or (word_fault space) (words_fault more (with_word space))

-- the invariant of the program's memories: no counter passes 2048
pub record IsSpace (space : Space) : Type 0 where
  pub counter : space.at ≤ 2048
  pub places : length space.taken ≤ 2048
