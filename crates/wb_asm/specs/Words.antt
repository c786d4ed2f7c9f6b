-- The fourth reading of a source: the words that its statements place.
use Rattle.std.specs.Prelude.{ℕ, ◌+◌, ℤ, pos, negsuc, List, [], ◌∷◌, map, slice_set}
use Rattle.std.specs.Int.{int_rem_euclid}
use Rattle.std.specs.Int.RustNames.{unsigned_abs}
use Rattle.std.specs.Option.{option_or}
use Rattle.std.specs.declared.option.Option.{Option}
use Rattle.std.specs.declared.option.Option.TheVariants.{None}
use Rattle.wb_word.specs.Encoding.{number, addr_at, spare_at}
use Rattle.wb_word.specs.declared.codes.Dst.{Dst}
use Rattle.wb_word.specs.declared.conditions.Cond.{Cond}
use Rattle.wb_word.specs.declared.words.Instr.{Instr}
use Rattle.wb_word.specs.declared.words.Instr.TheVariants as instr
use Rattle.wb_syntax.specs.Tree.{Tree}
use Rattle.wb_syntax.specs.declared.statements.Body.{Body}
use Rattle.wb_syntax.specs.declared.statements.Body.TheVariants.{Op, Rt, Ld, Jump, Dorg, Words, Dwords}
use Rattle.wb_syntax.specs.declared.statements.Statement.{Statement}
use Rattle.wb_asm.specs.declared.counters.Counters.{Counters}
use Rattle.wb_asm.specs.declared.faults.AsmKind.{AsmKind}
use Rattle.wb_asm.specs.declared.faults.AsmFault.{AsmFault}
use Rattle.wb_asm.specs.Value.{Names, exact, value_fault}
use Rattle.wb_asm.specs.Counters.{on_line}

-- what a program word is made of
pub data Content : Type 0 where
  -- an instruction without an expression
  Fixed : Instr → Content
  -- a load of an expression's value
  Load : Dst → Tree → Content
  -- a jump to it
  Branch : Cond → Tree → Content
  -- the value itself
  Plain : Tree → Content

-- the program words of a statement
abbrev pub contents : Body → List Content
contents (Op word) = Fixed (instr.Op word) ∷ []
contents (Rt word) = Fixed (instr.Rt word) ∷ []
contents (Ld dst x) = Load dst x ∷ []
contents (Jump cond x) = Branch cond x ∷ []
contents (Words xs) = map Plain xs
contents _ = []

-- its data words
abbrev pub data_values : Body → List Tree
data_values (Dwords xs) = xs
data_values _ = []

-- the 16 bits of a number; a negative number is in two's complement
abbrev pub low_word : ℤ → ℕ
low_word number = unsigned_abs (int_rem_euclid number (pos 65536))

module _ (text : List ℕ) (names : Names) (here : ℕ) where
  -- what is wrong with a program word
  abbrev pub content_fault : Content → Option AsmKind
  content_fault (Fixed instr) = None
  content_fault (Load dst x) = value_fault text names here (negsuc 32767) (pos 65535) x
  content_fault (Branch cond x) = value_fault text names here (pos 0) (pos 2047) x
  content_fault (Plain x) = value_fault text names here (pos 0) (pos 16777215) x

  -- the program word, where nothing is
  abbrev pub content_word : Content → ℕ
  content_word (Fixed instr) = number instr
  content_word (Load dst x) = number (instr.Ld (low_word (exact text names here x)) (spare_at 0) dst)
  content_word (Branch cond x) = number (instr.Jp cond (addr_at (unsigned_abs (exact text names here x))) (spare_at 0))
  content_word (Plain x) = unsigned_abs (exact text names here x)

  -- what is wrong with a data word
  abbrev pub data_fault : Tree → Option AsmKind
  data_fault x = value_fault text names here (negsuc 32767) (pos 65535) x

  -- the data word, where nothing is
  abbrev pub data_word : Tree → ℕ
  data_word x = low_word (exact text names here x)

-- the first of these that is there
abbrev pub first_of : List (Option AsmKind) → Option AsmKind
first_of [] = None
first_of (fault ∷ faults) = option_or fault (first_of faults)

-- a memory, with these words from a place on
abbrev pub with_words_at : List ℕ → ℕ → List ℕ → List ℕ
with_words_at memory at [] = memory
with_words_at memory at (word ∷ words) = with_words_at (slice_set memory at word) (at + 1) words

-- the number of `$`, by the counters before a statement
abbrev pub here_at : Counters → Body → ℕ
here_at counters (Dorg x) = counters.drom
here_at counters (Dwords xs) = counters.drom
here_at counters _ = counters.prog

module _ (text : List ℕ) (names : Names) where
  -- the first of the values of a statement that is faulty
  unfoldable pub values_fault : Counters → Body → Option AsmKind
  values_fault counters body =
      option_or (first_of (map (content_fault text names (here_at counters body)) (contents body)))
      (first_of (map (data_fault text names (here_at counters body)) (data_values body)))

  -- the two memories, with the words of a statement
  unfoldable pub prog_with : List ℕ → Counters → Body → List ℕ
  prog_with prog counters body =
      with_words_at prog counters.prog (map (content_word text names (here_at counters body)) (contents body))

  unfoldable pub drom_with : List ℕ → Counters → Body → List ℕ
  drom_with drom counters body =
      with_words_at drom counters.drom (map (data_word text names (here_at counters body)) (data_values body))

  -- the first fault of statements, by the counters before each of them
  abbrev pub first_misvalued : List Statement → List Counters → Option AsmFault
  first_misvalued [] _ = None
  first_misvalued (statement ∷ statements) [] = None
  first_misvalued (statement ∷ statements) (at ∷ later) =
      option_or (on_line statement.line (values_fault at statement.body)) (first_misvalued statements later)

  -- the memories, with the words of all of them
  abbrev pub prog_filled : List ℕ → List Statement → List Counters → List ℕ
  prog_filled prog [] _ = prog
  prog_filled prog (statement ∷ statements) [] = prog
  prog_filled prog (statement ∷ statements) (at ∷ later) =
      prog_filled (prog_with prog at statement.body) statements later

  abbrev pub drom_filled : List ℕ → List Statement → List Counters → List ℕ
  drom_filled drom [] _ = drom
  drom_filled drom (statement ∷ statements) [] = drom
  drom_filled drom (statement ∷ statements) (at ∷ later) =
      drom_filled (drom_with drom at statement.body) statements later
