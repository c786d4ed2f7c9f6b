-- Why the reading of a line stops. No public clause cites this.
use Rattle.std.specs.Prelude.{◌≡◌, ℕ, ⊤}
use Rattle.std.specs.declared.option.Option.{Option}
use Rattle.std.specs.declared.option.Option.TheVariants.{Some}
use Rattle.wb_asm.specs.declared.faults.AsmFault.{AsmFault}
use Rattle.wb_asm.specs.declared.faults.AsmKind.{AsmKind}
use Rattle.wb_asm.specs.declared.faults.AsmError.{AsmError}
use Rattle.wb_asm.specs.declared.faults.AsmError.TheVariants.{Fault, OutOfMemory}

-- the fault of this line; want of memory is free
abbrev pub IsRefusal : ℕ → Option AsmKind → AsmError → Type 0
IsRefusal line kind (Fault fault) = (fault.line ≡ line) × (kind ≡ Some fault.kind)
IsRefusal line kind OutOfMemory = ⊤

-- the first fault of several lines, where there is one; want of memory is free
abbrev pub IsFirst : Option AsmFault → AsmError → Type 0
IsFirst first (Fault fault) = first ≡ Some fault
IsFirst first OutOfMemory = ⊤
