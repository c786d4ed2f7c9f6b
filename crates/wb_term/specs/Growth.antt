-- What stays when a graph grows: everything that could be said of the nodes that were there.
use Rattle.std.specs.Prelude.{◌≡◌, ℕ, ◌+◌, ◌<◌, ◌≤◌, ◌⊎◌, ◌≢◌, Bool, true, [], ◌∷◌, ◌++◌, Some, length, slice_get}
use Rattle.std.specs.List.{sum_by}
use Rattle.wb_term.specs.declared.nodes.WordId.{WordId}
use Rattle.wb_term.specs.declared.nodes.BitId.{BitId}
use Rattle.wb_term.specs.declared.nodes.Node.{Node}
use Rattle.wb_term.specs.Nodes.{weight, children, is_input, Each}
use Rattle.wb_term.specs.Inputs.{Assignment}
use Rattle.wb_term.specs.Terms.{Terms, HasWord, HasBit}
use Rattle.wb_term.specs.Values.{value, node_value, word_value, bit_value}
use Rattle.wb_term.specs.Under.{IsUnder, HasOnly}

-- the weight of all nodes together
unfoldable pub total_weight : Terms → ℕ
total_weight g = sum_by weight g.nodes

-- The old nodes keep their numbers, values and what stands under them; the tables stay.
pub record Grown (old new : Terms) : Type 0 where
  pub tables : new.tables ≡ old.tables
  pub longer : length old.nodes ≤ length new.nodes
  pub nodes : (k : ℕ) (n : Node) → slice_get old.nodes k ≡ Some n → slice_get new.nodes k ≡ Some n
  pub before : (k : ℕ) (n : Node) → k < length old.nodes → slice_get new.nodes k ≡ Some n → slice_get old.nodes k ≡ Some n
  pub words : (x : WordId) → HasWord old x → HasWord new x
  pub bits : (c : BitId) → HasBit old c → HasBit new c
  pub word_values : (inputs : Assignment) (x : WordId) → HasWord old x → word_value inputs new x ≡ word_value inputs old x
  pub bit_values : (inputs : Assignment) (c : BitId) → HasBit old c → bit_value inputs new c ≡ bit_value inputs old c
  pub word_inputs : (allowed : Node → Bool) (x : WordId) → HasWord old x → HasOnly old allowed x.number → HasOnly new allowed x.number
  pub bit_inputs : (allowed : Node → Bool) (c : BitId) → HasBit old c → HasOnly old allowed c.number → HasOnly new allowed c.number
  pub under : (j k : ℕ) → k < length old.nodes → IsUnder new j k → IsUnder old j k

-- at most so many more nodes, and at most so much heavier
pub record AddsAtMost (old new : Terms) (more heavier : ℕ) : Type 0 where
  pub longer_by : length new.nodes ≤ length old.nodes + more
  pub heavier_by : total_weight new ≤ total_weight old + heavier

-- the graph with a node at its end
abbrev pub with_node : Terms → Node → Terms
with_node g n = record { nodes = g.nodes ++ n ∷ []; tables = g.tables }

-- A node has a number: its own where it stood, and then nothing changed, else the next one.
pub record IsInterned (old new : Terms) (n : Node) (number : ℕ) : Type 0 where
  pub at : slice_get new.nodes number ≡ Some n
  pub added : (new ≡ old) ⊎ ((new ≡ with_node old n) × (number ≡ length old.nodes) × ((k : ℕ) → slice_get old.nodes k ≢ Some n))

-- what a node with a number means: its value, what stands under it, and that all else stays
pub record Gains (old new : Terms) (n : Node) (number : ℕ) : Type 0 where
  pub at : slice_get new.nodes number ≡ Some n
  pub means : (inputs : Assignment) → value inputs new number ≡ node_value old.tables inputs (value inputs old) n
  pub inputs : (allowed : Node → Bool) → (is_input n ≡ true → allowed n ≡ true) → Each (HasOnly old allowed) (children n) → HasOnly new allowed number
  pub grown : Grown old new
  pub adds : AddsAtMost old new 1 (weight n)
