-- Two states at one place of the program, merged by a condition.
use Rattle.std.specs.Prelude.{◌↔◌, if◌then◌else◌}
use Rattle.wb_term.specs.declared.nodes.BitId.{BitId}
use Rattle.wb_term.specs.Inputs.{Assignment, IsAssignment}
use Rattle.wb_term.specs.Terms.{Terms}
use Rattle.wb_term.specs.Values.{bit_value}
use Rattle.wb_machine.specs.State.{State}
use Rattle.wb_symstep.specs.declared.state.SymState.{SymState}
use Rattle.wb_symstep.specs.State.{StandsFor}

-- the one state where the bit is true under the inputs, else the other
abbrev pub side_by : Assignment → Terms → BitId → SymState → SymState → SymState
side_by inputs g c first second = if bit_value inputs g c then first else second

-- Under all inputs the state stands for exactly the machines for which the one state stood where the bit is true,
-- and the other where it isn't.
abbrev pub Merges : Terms → Terms → BitId → SymState → SymState → SymState → Type 0
Merges old new c first second s =
    (inputs : Assignment) → IsAssignment inputs → (m : State)
    → StandsFor inputs new s m ↔ StandsFor inputs old (side_by inputs old c first second) m
