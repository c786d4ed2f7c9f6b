-- What growth of the graph leaves of states.
use Rattle.std.specs.Prelude.{Bool}
use Rattle.wb_term.specs.declared.nodes.Node.{Node}
use Rattle.wb_term.specs.Inputs.{Assignment}
use Rattle.wb_term.specs.Terms.{Terms}
use Rattle.wb_term.specs.Growth.{Grown}
use Rattle.wb_machine.specs.State.{State}
use Rattle.wb_symstep.specs.declared.state.SymState.{SymState}
use Rattle.wb_symstep.specs.State.{StandsFor, IsSymState, StateHasOnly}

-- A state of the old graph is one of the new, stands in it for exactly the same machines, and has the same inputs.
pub record StatesStay (old new : Terms) : Type 0 where
  pub there : (s : SymState) → IsSymState old s → IsSymState new s
  pub stands : (inputs : Assignment) (s : SymState) (m : State) → IsSymState old s → StandsFor inputs old s m → StandsFor inputs new s m
  pub stood : (inputs : Assignment) (s : SymState) (m : State) → IsSymState old s → StandsFor inputs new s m → StandsFor inputs old s m
  pub only : (allowed : Node → Bool) (s : SymState) → IsSymState old s → StateHasOnly old allowed s → StateHasOnly new allowed s

-- Growth of the graph leaves every state as it is.
abbrev pub GrowthKeepsStates : Type 0
GrowthKeepsStates = (old new : Terms) → Grown old new → StatesStay old new
