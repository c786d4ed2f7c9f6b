-- What all diagrams together are: a list of nodes, each at the place of its number, and how many there may be.
use Rattle.std.specs.Prelude.{◌≡◌, ◌≢◌, ℕ, ◌<◌, ◌≤◌, Bool, true, false, List, Some, None, Option, length, slice_get, if◌then◌else◌}
use Rattle.wb_diagram.specs.declared.nodes.Diagram.{Diagram}
use Rattle.wb_diagram.specs.declared.nodes.Node.{Node}
use Rattle.wb_diagram.specs.declared.nodes.Node.TheVariants.{Leaf, Split}

pub record Forest : Type 0 where
  pub nodes : List Node
  pub limit : ℕ

-- the number of a constant
abbrev pub leaf_number : Bool → ℕ
leaf_number b = if b then 1 else 0

-- the place of a node in the order of variables; the leaves come last
abbrev pub node_level : Node → ℕ
node_level (Leaf b) = 4294967295
node_level (Split x low high) = x

abbrev pub level_of : Option Node → ℕ
level_of None = 0
level_of (Some n) = node_level n

abbrev pub level : Forest → Diagram → ℕ
level f d = level_of (slice_get f.nodes d.number)

-- the diagram is there
abbrev pub HasDiagram : Forest → Diagram → Type 0
HasDiagram f d = d.number < length f.nodes

-- The children have smaller numbers and stand later in the order, and they differ.
pub record IsSplit (f : Forest) (k x : ℕ) (low high : Diagram) : Type 0 where
  pub low_below : low.number < k
  pub high_below : high.number < k
  pub apart : low.number ≢ high.number
  pub over_low : x < level f low
  pub over_high : x < level f high
  pub below_leaves : x < 4294967295

-- a node as it may stand at a number
abbrev pub IsPlaced : Forest → ℕ → Node → Type 0
IsPlaced f k (Leaf b) = k ≡ leaf_number b
IsPlaced f k (Split x low high) = IsSplit f k x low high

-- The leaves come first, each node is placed, no node stands twice, and there are no more than there may be.
pub record IsForest (f : Forest) : Type 0 where
  pub leaf_false : slice_get f.nodes 0 ≡ Some (Leaf false)
  pub leaf_true : slice_get f.nodes 1 ≡ Some (Leaf true)
  pub placed : (k : ℕ) (n : Node) → slice_get f.nodes k ≡ Some n → IsPlaced f k n
  pub once : (j k : ℕ) (n : Node) → slice_get f.nodes j ≡ Some n → slice_get f.nodes k ≡ Some n → j ≡ k
  pub within : length f.nodes ≤ f.limit
  pub fits : f.limit ≤ 4194304
