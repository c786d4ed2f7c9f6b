-- Circuits of replies: what the host gets at the first request after a dialogue, for all inputs at once.
use Rattle.std.specs.Prelude.{◌≡◌, ◌↔◌, Bool, true, Some}
use Rattle.wb_rom.specs.declared.images.Image.{Image}
use Rattle.wb_term.specs.declared.nodes.Node.{Node}
use Rattle.wb_term.specs.Inputs.{Assignment, IsAssignment}
use Rattle.wb_term.specs.Terms.{Terms, HasWord, HasBit}
use Rattle.wb_term.specs.Values.{word_value, bit_value}
use Rattle.wb_term.specs.Under.{HasOnly}
use Rattle.wb_port.specs.declared.accesses.Access.TheVariants as access
use Rattle.wb_port.specs.declared.chips.Chip.{Chip}
use Rattle.wb_port.specs.Port.{access_reply}
use Rattle.wb_explore.specs.declared.plan.Plan.{Plan}
use Rattle.wb_explore.specs.Runs.{Asks}
use Rattle.wb_explore.specs.Plans.{runs_of}
use Rattle.wb_replies.specs.declared.circuit.ReplyCircuit.{ReplyCircuit}

-- the ids of the circuit are in the graph
pub record IsCircuit (g : Terms) (c : ReplyCircuit) : Type 0 where
  pub present : HasBit g c.present
  pub status : HasWord g c.status
  pub read : HasWord g c.read

-- only such input nodes stand under the circuit
pub record CircuitHasOnly (g : Terms) (allowed : Node → Bool) (c : ReplyCircuit) : Type 0 where
  pub present : HasOnly g allowed c.present.number
  pub status : HasOnly g allowed c.status.number
  pub read : HasOnly g allowed c.read.number

-- Under all inputs: the circuit is present exactly where a first request follows the last access of the plan's
-- dialogue, and there its words are what the host gets by a status read and by a data read.
pub record TellsReplies (g : Terms) (image : Image) (p : Plan) (c : ReplyCircuit) : Type 0 where
  pub present : (i : Assignment) → IsAssignment i → (bit_value i g c.present ≡ true) ↔ ((d : Chip) × Asks (runs_of image p) i d)
  pub status : (i : Assignment) → IsAssignment i → (d : Chip) → Asks (runs_of image p) i d → access_reply access.Status d.machine ≡ Some (word_value i g c.status)
  pub read : (i : Assignment) → IsAssignment i → (d : Chip) → Asks (runs_of image p) i d → access_reply access.Read d.machine ≡ Some (word_value i g c.read)
