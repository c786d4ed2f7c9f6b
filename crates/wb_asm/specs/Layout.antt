-- The third reading of a source: what its names stand for, and where its words stand, line by line.
use Rattle.std.specs.Prelude.{ℕ, ◌-◌, ◌^◌, ℤ, pos, negsuc, if◌then◌else◌, List, [], ◌∷◌, ◌++◌, length, is_some}
use Rattle.std.specs.Int.RustNames.{unsigned_abs}
use Rattle.std.specs.Option.{option_or}
use Rattle.std.specs.declared.option.Option.{Option}
use Rattle.std.specs.declared.option.Option.TheVariants.{Some, None}
use Rattle.wb_syntax.specs.declared.spans.Span.{Span}
use Rattle.wb_syntax.specs.declared.statements.Body.{Body}
use Rattle.wb_syntax.specs.declared.statements.Body.TheVariants.{Op, Rt, Ld, Jump, Org, Dorg, Equ, Words, Dwords}
use Rattle.wb_syntax.specs.declared.statements.Statement.{Statement}
use Rattle.wb_asm.specs.declared.faults.AsmKind.{AsmKind}
use Rattle.wb_asm.specs.declared.faults.AsmKind.TheVariants.{Twice}
use Rattle.wb_asm.specs.declared.layout.Layout.{Layout}
use Rattle.wb_asm.specs.Value.{Names, number_named, name_of, exact, value_fault}
use Rattle.wb_asm.specs.Space.{Space, empty, with_words, words_fault}

-- the number of a label and of `$`: the counter before the statement, that of the data memory where the statement
-- is `.dw` or `.dorg`, and else that of the program memory
abbrev pub here : Layout → Body → ℕ
here before (Dorg x) = before.drom.at
here before (Dwords xs) = before.drom.at
here before _ = before.prog.at

-- how many program words a statement places
abbrev pub program_words : Body → ℕ
program_words (Op word) = 1
program_words (Rt word) = 1
program_words (Ld dst x) = 1
program_words (Jump cond x) = 1
program_words (Words xs) = length xs
program_words _ = 0

-- how many data words
abbrev pub data_words : Body → ℕ
data_words (Dwords xs) = length xs
data_words _ = 0

-- the names, with that of a label
abbrev pub with_label : List ℕ → Names → ℕ → Option Span → Names
with_label text names at None = names
with_label text names at (Some label) = names ++ (name_of text label, pos at) ∷ []

-- the names, with that of an `.equ`
abbrev pub with_equ : List ℕ → Names → Body → ℤ → Names
with_equ text names (Equ name x) number = names ++ (name_of text name, number) ∷ []
with_equ text names _ number = names

-- the number of the expression that has to be known at once; names of earlier lines alone count
abbrev pub early_number : List ℕ → Layout → Body → ℤ
early_number text before (Org x) = exact text before.names before.prog.at x
early_number text before (Dorg x) = exact text before.names before.drom.at x
early_number text before (Equ name x) = exact text before.names before.prog.at x
early_number text before _ = pos 0

-- what is wrong with it
abbrev pub early_fault : List ℕ → Layout → Body → Option AsmKind
early_fault text before (Org x) = value_fault text before.names before.prog.at (pos 0) (pos 2047) x
early_fault text before (Dorg x) = value_fault text before.names before.drom.at (pos 0) (pos 1023) x
early_fault text before (Equ name x) =
    value_fault text before.names before.prog.at (negsuc (2 ^ 63 - 1)) (pos (2 ^ 63 - 1)) x
early_fault text before _ = None

-- a memory after a statement
abbrev pub program_after : Layout → Body → ℤ → Space
program_after before (Org x) number = record before.prog { at = unsigned_abs number }
program_after before body number = with_words (program_words body) before.prog

abbrev pub data_after : Layout → Body → ℤ → Space
data_after before (Dorg x) number = record before.drom { at = unsigned_abs number }
data_after before body number = with_words (data_words body) before.drom

-- what a source comes to before its first line
abbrev pub start : Layout
start = record { prog = empty 2048; drom = empty 1024; names = [] }

-- and after one more statement
unfoldable pub after : List ℕ → Layout → Statement → Layout
after text before statement = record {
  prog = program_after before statement.body (early_number text before statement.body);
  drom = data_after before statement.body (early_number text before statement.body);
  names = with_equ text (with_label text before.names (here before statement.body) statement.label) statement.body (early_number text before statement.body);
}

-- a name was defined before
abbrev pub twice_fault : Names → List ℕ → Option AsmKind
twice_fault names name = if is_some (number_named names name) then Some Twice else None

abbrev pub label_fault : List ℕ → Names → Option Span → Option AsmKind
label_fault text names None = None
label_fault text names (Some label) = twice_fault names (name_of text label)

abbrev pub equ_fault : List ℕ → Names → Body → Option AsmKind
equ_fault text names (Equ name x) = twice_fault names (name_of text name)
equ_fault text names _ = None

-- a word of a statement can't be placed
abbrev pub place_fault : Layout → Body → Option AsmKind
place_fault before body =
    option_or (words_fault (program_words body) before.prog) (words_fault (data_words body) before.drom)

-- what is wrong with a statement: the label or the name of an `.equ` was defined before, the latter also by the
-- label of its own line; the number that has to be known at once is faulty; or a word can't be placed
unfoldable pub line_fault : List ℕ → Layout → Statement → Option AsmKind
line_fault text before statement =
    option_or (label_fault text before.names statement.label)
    (option_or (equ_fault text (with_label text before.names (here before statement.body) statement.label) statement.body)
    (option_or (early_fault text before statement.body)
    (place_fault before statement.body)))
