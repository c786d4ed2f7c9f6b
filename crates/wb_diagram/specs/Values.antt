-- The value of each node under an assignment of the variables, by those of its children, whose numbers are smaller.
use Rattle.std.specs.Prelude.{◌≡◌, ℕ, Bool, false, List, [], ◌∷◌, ◌++◌, fold, slice_index_or, if◌then◌else◌}
use Rattle.wb_diagram.specs.declared.nodes.Diagram.{Diagram}
use Rattle.wb_diagram.specs.declared.nodes.Node.{Node}
use Rattle.wb_diagram.specs.declared.nodes.Node.TheVariants.{Leaf, Split}
use Rattle.wb_diagram.specs.Forest.{Forest, HasDiagram, level}

-- the value of a node, where `of` gives those of its children
abbrev pub node_value : (ℕ → Bool) → (Diagram → Bool) → Node → Bool
node_value v of (Leaf b) = b
node_value v of (Split x low high) = if v x then of high else of low

-- the values of a list's nodes after those that are done, in order of number
abbrev pub with_value : (ℕ → Bool) → List Bool → Node → List Bool
with_value v done n = done ++ node_value v (λ d. slice_index_or done d.number false) n ∷ []

unfoldable pub values : (ℕ → Bool) → List Node → List Bool
values v nodes = fold (with_value v) [] nodes

-- the value of a diagram where `v` gives those of the variables
unfoldable pub value : (ℕ → Bool) → Forest → Diagram → Bool
value v f d = slice_index_or (values v f.nodes) d.number false

-- a diagram of a constant
pub record IsLeaf (f : Forest) (constant : Bool) (d : Diagram) : Type 0 where
  pub there : HasDiagram f d
  pub value : (v : ℕ → Bool) → value v f d ≡ constant
  pub level : level f d ≡ 4294967295

-- there are values of the variables that give this value
abbrev pub Reaches : Forest → Bool → Diagram → Type 0
Reaches f b d = (v : ℕ → Bool) × (value v f d ≡ b)

-- the diagram of a function
pub record IsFunction (f : Forest) (d : Diagram) (meaning : (ℕ → Bool) → Bool) : Type 0 where
  pub there : HasDiagram f d
  pub value : (v : ℕ → Bool) → value v f d ≡ meaning v
