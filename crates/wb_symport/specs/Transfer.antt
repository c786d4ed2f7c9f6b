-- What an access of the host gives and leaves, for all inputs for which a state stands for a machine.
use Rattle.std.specs.Prelude.{◌≡◌, ℕ, false, slice_get}
use Rattle.wb_term.specs.declared.nodes.WordId.{WordId}
use Rattle.wb_term.specs.declared.nodes.BitId.{BitId}
use Rattle.wb_term.specs.Inputs.{Assignment, IsAssignment}
use Rattle.wb_term.specs.Terms.{Terms, HasWord}
use Rattle.wb_term.specs.Values.{word_value, bit_value}
use Rattle.wb_machine.specs.State.{State}
use Rattle.wb_port.specs.declared.accesses.Access.{Access}
use Rattle.wb_port.specs.Port.{drc, accessed}
use Rattle.wb_symstep.specs.declared.state.SymState.{SymState}
use Rattle.wb_symstep.specs.declared.stepped.Stepped.{Stepped}
use Rattle.wb_symstep.specs.declared.stepped.Stepped.TheVariants.{One, Fork}
use Rattle.wb_symstep.specs.State.{StandsFor}
use Rattle.wb_symstep.specs.Stepped.{chosen, is_known}

-- a word of the new graph that has this value of each machine for which the state stands
pub record IsTold (old new : Terms) (s : SymState) (id : WordId) (meaning : State → ℕ) : Type 0 where
  pub there : HasWord new id
  pub value : (inputs : Assignment) → IsAssignment inputs → (m : State) → StandsFor inputs old s m → word_value inputs new id ≡ meaning m

-- For each machine for which the state stands, the chosen result stands for the machine after the access.
abbrev pub StandsAfter : Terms → Terms → SymState → (Assignment → Access) → Stepped → Type 0
StandsAfter old new s access r =
    (inputs : Assignment) → IsAssignment inputs → (m : State) → StandsFor inputs old s m
    → StandsFor inputs new (chosen inputs new r) (accessed (access inputs) m)

-- the bit says whether a transfer of the machine has one byte alone
abbrev pub SaysDrc : Terms → Terms → SymState → BitId → Type 0
SaysDrc old new s c =
    (inputs : Assignment) → IsAssignment inputs → (m : State) → StandsFor inputs old s m → bit_value inputs new c ≡ drc m

-- A fork is on DRC alone, and only where that is no constant node.
abbrev pub ForksAtOpenDrc : Terms → Terms → SymState → Stepped → Type 0
ForksAtOpenDrc old new s (One next) = Unit {0}
ForksAtOpenDrc old new s (Fork c first second) = SaysDrc old new s c × (is_known (slice_get new.nodes c.number) ≡ false)
