-- What a symbolic instruction or transfer gives: one state, or two by a condition.
use Rattle.std.specs.Prelude.{◌≡◌, Bool, true, false, if◌then◌else◌, Option, Some, slice_get}
use Rattle.wb_word.specs.declared.conditions.Cond.{Cond}
use Rattle.wb_word.specs.declared.conditions.Cond.TheVariants as cond
use Rattle.wb_word.specs.declared.words.Instr.{Instr}
use Rattle.wb_word.specs.declared.words.Instr.TheVariants.{Jp}
use Rattle.wb_term.specs.declared.nodes.BitId.{BitId}
use Rattle.wb_term.specs.declared.nodes.BitNode.TheVariants.{Known}
use Rattle.wb_term.specs.declared.nodes.Node.{Node}
use Rattle.wb_term.specs.declared.nodes.Node.TheVariants.{Bit}
use Rattle.wb_term.specs.Inputs.{Assignment, IsAssignment}
use Rattle.wb_term.specs.Terms.{Terms, HasBit}
use Rattle.wb_term.specs.Values.{bit_value}
use Rattle.wb_term.specs.Under.{HasOnly}
use Rattle.wb_machine.specs.State.{State, IsState}
use Rattle.wb_machine.specs.Next.{taken}
use Rattle.wb_symstep.specs.declared.state.SymState.{SymState}
use Rattle.wb_symstep.specs.declared.stepped.Stepped.{Stepped}
use Rattle.wb_symstep.specs.declared.stepped.Stepped.TheVariants.{One, Fork}
use Rattle.wb_symstep.specs.State.{StandsFor, IsSymState, StateHasOnly}

-- the one state; at a fork the first where the condition is true under the inputs, else the second
abbrev pub chosen : Assignment → Terms → Stepped → SymState
chosen inputs g (One s) = s
chosen inputs g (Fork c first second) = if bit_value inputs g c then first else second

-- each state, and the condition of a fork, is in the graph and in its ranges
abbrev pub IsStepped : Terms → Stepped → Type 0
IsStepped g (One s) = IsSymState g s
IsStepped g (Fork c first second) = HasBit g c × IsSymState g first × IsSymState g second

-- only such input nodes stand under the states, and under the condition of a fork
abbrev pub SteppedHasOnly : Terms → (Node → Bool) → Stepped → Type 0
SteppedHasOnly g allowed (One s) = StateHasOnly g allowed s
SteppedHasOnly g allowed (Fork c first second) =
    HasOnly g allowed c.number × StateHasOnly g allowed first × StateHasOnly g allowed second

-- a node is a constant bit
abbrev pub is_known : Option Node → Bool
is_known (Some (Bit (Known v))) = true
is_known _ = false

-- A jump that can go either way: on a flag or on the low four bits of DP. The other conditions are those of RQM,
-- of the idle serial port, and those that always or never hold.
abbrev pub tests_terms : Cond → Bool
tests_terms cond.Jnsiak = false
tests_terms cond.Jsiak = false
tests_terms cond.Jnsoak = false
tests_terms cond.Jsoak = false
tests_terms cond.Jnrqm = false
tests_terms cond.Jrqm = false
tests_terms cond.Jmp = false
tests_terms cond.Call = false
tests_terms (cond.Other code) = false
tests_terms _ = true

-- the bit says whether a jump with this condition is taken by the machine that the state stands for
abbrev pub SaysTaken : Terms → SymState → Cond → BitId → Type 0
SaysTaken g s c says =
    (inputs : Assignment) (m : State) → IsAssignment inputs → IsState m → StandsFor inputs g s m → bit_value inputs g says ≡ taken c m.regs

-- The instruction is a jump on terms, and the bit is its condition and no constant node.
abbrev pub IsOpenJump : Terms → SymState → Instr → BitId → Type 0
IsOpenJump g s (Jp c na spare) says = (tests_terms c ≡ true) × SaysTaken g s c says × (is_known (slice_get g.nodes says.number) ≡ false)
IsOpenJump g s _ says = ⊥

-- a fork comes at such an instruction alone
abbrev pub ForksAtOpenJump : Terms → SymState → Instr → Stepped → Type 0
ForksAtOpenJump g s i (One next) = Unit {0}
ForksAtOpenJump g s i (Fork c first second) = IsOpenJump g s i c
