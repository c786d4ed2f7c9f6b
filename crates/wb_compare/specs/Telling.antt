-- The circuits of the replies of both sides, and what it takes to ask where they differ.
use Rattle.std.specs.Prelude.{◌≡◌, ℕ, ◌+◌, ◌*◌, ◌^◌, ◌≤◌, Option, Some, List, length}
use Rattle.wb_rom.specs.declared.images.Image.{Image}
use Rattle.wb_term.specs.declared.nodes.BitId.{BitId}
use Rattle.wb_term.specs.Terms.{Terms}
use Rattle.wb_term.specs.Inputs.{Assignment, IsAssignment}
use Rattle.wb_term.specs.Under.{HasOnly}
use Rattle.wb_term.specs.Growth.{total_weight}
use Rattle.wb_port.specs.declared.accesses.Kind.{Kind}
use Rattle.wb_port.specs.Dialogue.{AllowsEach}
use Rattle.wb_word.specs.declared.sides.Side.TheVariants as side
use Rattle.wb_explore.specs.Layers.{IsLayer}
use Rattle.wb_explore.specs.Plans.{is_chosen}
use Rattle.wb_replies.specs.Circuits.{IsCircuit, CircuitHasOnly, TellsReplies}
use Rattle.wb_replies.specs.Differences.{IsDifference, AreToldApart}
use Rattle.wb_compare.specs.declared.questions.Question.{Question}
use Rattle.wb_compare.specs.declared.pairs.Pair.{Pair}
use Rattle.wb_compare.specs.declared.circuits.Circuits.{Circuits}
use Rattle.wb_compare.specs.Settled.{plan_of, wants_read}

-- the layers of both images for these kinds, which the shape allows
pub record HasLayers (g : Terms) (a b : Image) (q : Question) (ks : List Kind) (p : Pair) : Type 0 where
  pub first_plan : p.first.plan ≡ plan_of q side.A ks
  pub second_plan : p.second.plan ≡ plan_of q side.B ks
  pub first : IsLayer g a p.first
  pub second : IsLayer g b p.second
  pub allowed : AllowsEach q.shape ks

-- the circuits tell the replies of both images after the dialogues of these kinds
pub record AreCircuits (g : Terms) (a b : Image) (q : Question) (ks : List Kind) (c : Circuits) : Type 0 where
  pub first : IsCircuit g c.first
  pub second : IsCircuit g c.second
  pub first_tells : TellsReplies g a (plan_of q side.A ks) c.first
  pub second_tells : TellsReplies g b (plan_of q side.B ks) c.second
  pub first_only : CircuitHasOnly g (is_chosen ks q.power) c.first
  pub second_only : CircuitHasOnly g (is_chosen ks q.power) c.second

-- A bit that is true exactly where a wanted reply differs, over inputs that the dialogues choose; or none does.
pub record IsTelling (g : Terms) (q : Question) (ks : List Kind) (c : Circuits) (o : Option BitId) : Type 0 where
  pub differs : IsDifference g g c.first c.second (wants_read q ks) o
  pub only : (bit : BitId) → o ≡ Some bit → HasOnly g (is_chosen ks q.power) bit.number

-- under these inputs a wanted reply differs
pub record IsApartUnder (g : Terms) (q : Question) (ks : List Kind) (c : Circuits) (i : Assignment) : Type 0 where
  pub assignment : IsAssignment i
  pub apart : AreToldApart i g c.first c.second (wants_read q ks)

-- the graph has room for the replies at so many request states
pub record HasRoomFor (g : Terms) (requests : ℕ) : Type 0 where
  pub few : length g.nodes + 936 * requests ≤ 2 ^ 31
  pub light : total_weight g + 58976 * requests ≤ 2 ^ 31
