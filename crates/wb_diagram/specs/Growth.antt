-- What stays when nodes are added: everything that could be said of those that were there.
use Rattle.std.specs.Prelude.{◌≡◌, ◌≢◌, ℕ, ◌<◌, ◌≤◌, Bool, [], ◌∷◌, ◌++◌, Some, length, slice_get, ◌⊎◌, if◌then◌else◌}
use Rattle.wb_diagram.specs.declared.nodes.Diagram.{Diagram}
use Rattle.wb_diagram.specs.declared.nodes.Node.{Node}
use Rattle.wb_diagram.specs.declared.refused.Refused.{Refused}
use Rattle.wb_diagram.specs.declared.refused.Refused.TheVariants.{Memory, Full, Spent, Deep}
use Rattle.wb_diagram.specs.Forest.{Forest, HasDiagram, level}
use Rattle.wb_diagram.specs.Values.{value}

-- The old diagrams keep their nodes, their places in the order and their values.
pub record Grown (old new : Forest) : Type 0 where
  pub limit : new.limit ≡ old.limit
  pub longer : length old.nodes ≤ length new.nodes
  pub nodes : (k : ℕ) → k < length old.nodes → slice_get new.nodes k ≡ slice_get old.nodes k
  pub diagrams : (d : Diagram) → HasDiagram old d → HasDiagram new d
  pub levels : (d : Diagram) → HasDiagram old d → level new d ≡ level old d
  pub values : (v : ℕ → Bool) (d : Diagram) → HasDiagram old d → value v new d ≡ value v old d

-- the forest with a node at its end
abbrev pub with_node : Forest → Node → Forest
with_node f n = record { nodes = f.nodes ++ n ∷ []; limit = f.limit }

-- A node has a number: its own where it stood, and then nothing changed, else the next one.
pub record IsInterned (old new : Forest) (n : Node) (number : ℕ) : Type 0 where
  pub at : slice_get new.nodes number ≡ Some n
  pub added : (new ≡ old) ⊎ ((new ≡ with_node old n) × (number ≡ length old.nodes) × ((k : ℕ) → slice_get old.nodes k ≢ Some n))

-- the diagram that is `high` where the variable is set, else `low`
pub record IsJoined (old new : Forest) (x : ℕ) (low high d : Diagram) : Type 0 where
  pub there : HasDiagram new d
  pub value : (v : ℕ → Bool) → value v new d ≡ (if v x then value v old high else value v old low)
  pub over : (y : ℕ) → y < x → y < level new d

-- why a diagram wasn't made, with the forest and the steps that are left then
abbrev pub IsRefusal : Forest → ℕ → Refused → Type 0
IsRefusal f steps Memory = Unit {0}
IsRefusal f steps Full = length f.nodes ≡ f.limit
IsRefusal f steps Spent = steps ≡ 0
IsRefusal f steps Deep = Unit {0}
