-- The counters before each statement, and the first fault of the third reading.
use Rattle.std.specs.Prelude.{ℕ, List, [], ◌∷◌}
use Rattle.std.specs.Option.{option_or}
use Rattle.std.specs.declared.option.Option.{Option}
use Rattle.std.specs.declared.option.Option.TheVariants.{Some, None}
use Rattle.wb_syntax.specs.declared.statements.Statement.{Statement}
use Rattle.wb_asm.specs.declared.counters.Counters.{Counters}
use Rattle.wb_asm.specs.declared.faults.AsmKind.{AsmKind}
use Rattle.wb_asm.specs.declared.faults.AsmFault.{AsmFault}
use Rattle.wb_asm.specs.declared.layout.Layout.{Layout}
use Rattle.wb_asm.specs.Layout.{after, line_fault}

-- a fault on a line
abbrev pub on_line : ℕ → Option AsmKind → Option AsmFault
on_line line None = None
on_line line (Some kind) = Some (record { line = line; kind = kind })

-- the first fault of the statements that follow
abbrev pub first_misplaced : List ℕ → Layout → List Statement → Option AsmFault
first_misplaced text before [] = None
first_misplaced text before (statement ∷ statements) =
    option_or (on_line statement.line (line_fault text before statement))
    (first_misplaced text (after text before statement) statements)

-- what the source comes to after them
abbrev pub laid_out : List ℕ → Layout → List Statement → Layout
laid_out text before [] = before
laid_out text before (statement ∷ statements) = laid_out text (after text before statement) statements

abbrev pub counters_of : Layout → Counters
counters_of before = record { prog = before.prog.at; drom = before.drom.at }

-- the counters before each of them
abbrev pub counters : List ℕ → Layout → List Statement → List Counters
counters text before [] = []
counters text before (statement ∷ statements) =
    counters_of before ∷ counters text (after text before statement) statements
