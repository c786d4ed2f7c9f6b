-- What holds of every graph.
use Rattle.std.specs.Prelude.{◌≡◌, ◌≤◌, ℕ, List}
use Rattle.wb_term.specs.declared.nodes.BitId.{BitId}
use Rattle.wb_term.specs.Growth.{total_weight}
use Rattle.wb_term.specs.Terms.{Terms}
use Rattle.wb_blast.specs.Number.{IsGateNumber}

-- some bits have one gate number
abbrev pub GateNumbersAgree : Type 0
GateNumbersAgree = (g : Terms) (bits : List BitId) (one other : ℕ) → IsGateNumber g bits one → IsGateNumber g bits other → one ≡ other

-- the gate number of some bits is at most the weight of the whole graph
abbrev pub GateNumbersAreLight : Type 0
GateNumbersAreLight = (g : Terms) (bits : List BitId) (number : ℕ) → IsGateNumber g bits number → number ≤ total_weight g
