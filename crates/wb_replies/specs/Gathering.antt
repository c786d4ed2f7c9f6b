-- The replies of some request states, gathered into one circuit.
use Rattle.std.specs.Prelude.{◌≡◌, Bool, true, false, ◌||◌, if◌then◌else◌, List, Contains}
use Rattle.wb_term.specs.declared.nodes.Node.{Node}
use Rattle.wb_term.specs.Inputs.{Assignment, IsAssignment}
use Rattle.wb_term.specs.Terms.{Terms}
use Rattle.wb_term.specs.Values.{IsWord, IsBit, word_value, bit_value}
use Rattle.wb_machine.specs.State.{State}
use Rattle.wb_port.specs.Port.{status_byte, byte_read}
use Rattle.wb_symstep.specs.State.{StandsFor}
use Rattle.wb_explore.specs.declared.layer.Request.{Request}
use Rattle.wb_replies.specs.declared.circuit.ReplyCircuit.{ReplyCircuit}
use Rattle.wb_replies.specs.Circuits.{IsCircuit, CircuitHasOnly}

-- present where one of two circuits is, with the words of the second where this is present, else of the first
pub record IsEither (old new : Terms) (first second c : ReplyCircuit) : Type 0 where
  pub present : IsBit new c.present (λ i. bit_value i old first.present || bit_value i old second.present)
  pub status : IsWord new c.status (λ i. if bit_value i old second.present then word_value i old second.status else word_value i old first.status)
  pub read : IsWord new c.read (λ i. if bit_value i old second.present then word_value i old second.read else word_value i old first.read)

-- A circuit with the replies at one more request state: present where this state's condition is true too, and then it
-- has the replies of the state's machines, else the words of the circuit before.
pub record IsAlso (old new : Terms) (before : ReplyCircuit) (q : Request) (c : ReplyCircuit) : Type 0 where
  pub present : (i : Assignment) → IsAssignment i → bit_value i new c.present ≡ (bit_value i old before.present || bit_value i old q.cond)
  pub status : (i : Assignment) → IsAssignment i → bit_value i old q.cond ≡ true → (m : State) → StandsFor i old q.state m → word_value i new c.status ≡ status_byte m
  pub read : (i : Assignment) → IsAssignment i → bit_value i old q.cond ≡ true → (m : State) → StandsFor i old q.state m → word_value i new c.read ≡ byte_read m
  pub status_before : (i : Assignment) → IsAssignment i → bit_value i old q.cond ≡ false → word_value i new c.status ≡ word_value i old before.status
  pub read_before : (i : Assignment) → IsAssignment i → bit_value i old q.cond ≡ false → word_value i new c.read ≡ word_value i old before.read

-- under the inputs some request state's condition is true, and the words are the replies of its machines
pub record IsToldBySome (old new : Terms) (qs : List Request) (i : Assignment) (c : ReplyCircuit) : Type 0 where
  pub request : Request
  pub listed : Contains qs request
  pub holds : bit_value i old request.cond ≡ true
  pub status : (m : State) → StandsFor i old request.state m → word_value i new c.status ≡ status_byte m
  pub read : (m : State) → StandsFor i old request.state m → word_value i new c.read ≡ byte_read m

-- The circuit is present exactly where a request state's condition is true, and then it has the replies of one.
pub record Gathers (old new : Terms) (allowed : Node → Bool) (qs : List Request) (c : ReplyCircuit) : Type 0 where
  pub there : IsCircuit new c
  pub only : CircuitHasOnly new allowed c
  pub all : (i : Assignment) → IsAssignment i → (q : Request) → Contains qs q → bit_value i old q.cond ≡ true → bit_value i new c.present ≡ true
  pub some : (i : Assignment) → IsAssignment i → bit_value i new c.present ≡ true → IsToldBySome old new qs i c
