-- The image of statements, or their first fault. No public clause cites this.
use Rattle.std.specs.Prelude.{◌≡◌, ℕ, ⊤, ◌⊎◌, List}
use Rattle.std.specs.declared.option.Option.TheVariants.{Some, None}
use Rattle.wb_rom.specs.declared.images.Image.{Image}
use Rattle.wb_syntax.specs.declared.statements.Statement.{Statement}
use Rattle.wb_asm.specs.declared.faults.AsmError.{AsmError}
use Rattle.wb_asm.specs.declared.faults.AsmError.TheVariants.{Fault, OutOfMemory}
use Rattle.wb_asm.specs.Assembly.{all_names, all_counters, placing_fault, value_fault, zeros}
use Rattle.wb_asm.specs.Words.{prog_filled, drom_filled}

pub record IsImageOfStatements (text : List ℕ) (statements : List Statement) (image : Image) : Type 0 where
  pub placed : placing_fault text statements ≡ None
  pub valued : value_fault text statements ≡ None
  pub prog : image.prog ≡ prog_filled text (all_names text statements) (zeros 2048) statements (all_counters text statements)
  pub drom : image.drom ≡ drom_filled text (all_names text statements) (zeros 1024) statements (all_counters text statements)

abbrev pub IsErrorOfStatements : List ℕ → List Statement → AsmError → Type 0
IsErrorOfStatements text statements (Fault fault) =
    (placing_fault text statements ≡ Some fault)
    ⊎ ((placing_fault text statements ≡ None) × (value_fault text statements ≡ Some fault))
IsErrorOfStatements text statements OutOfMemory = ⊤
