-- Paths from a diagram down to true.
use Rattle.std.specs.Prelude.{◌≡◌, ℕ, ◌+◌, ◌≤◌, Bool, true, false, not, ◌==◌, List, [], ◌∷◌, Some, slice_get, slice_index_or, if◌then◌else◌}
use Rattle.wb_diagram.specs.declared.nodes.Diagram.{Diagram}
use Rattle.wb_diagram.specs.declared.nodes.Node.TheVariants.{Split}
use Rattle.wb_diagram.specs.declared.nodes.Turn.{Turn}
use Rattle.wb_diagram.specs.Forest.{Forest, IsForest, leaf_number}
use Rattle.wb_diagram.specs.Values.{value}

-- the values of the variables in order, false past the end
abbrev pub assigned : List Bool → ℕ → Bool
assigned values x = slice_index_or values x false

-- the preferred side, where that isn't the constant false, else the other
abbrev pub turn_at : Bool → Diagram → Diagram → Bool
turn_at first low high = if (if first then high else low).number == 0 then not first else first

-- the turns that lead from a diagram to true, each to the preferred side where that can be true
abbrev pub IsPath : Forest → Bool → Diagram → List Turn → Type 0
IsPath f first d [] = d.number ≡ leaf_number true
IsPath f first d (t ∷ ts) = (low : Diagram) × (high : Diagram) × (slice_get f.nodes d.number ≡ Some (Split t.variable low high)) ×
    (t.side ≡ turn_at first low high) × IsPath f first (if t.side then high else low) ts

-- the values of the variables are those of the turns
abbrev pub Follows : (ℕ → Bool) → List Turn → Type 0
Follows v [] = Unit {0}
Follows v (t ∷ ts) = (v t.variable ≡ t.side) × Follows v ts

-- each variable comes after those before it, and all after one
abbrev pub RisesFrom : ℕ → List Turn → Type 0
RisesFrom least [] = Unit {0}
RisesFrom least (t ∷ ts) = (least ≤ t.variable) × RisesFrom (t.variable + 1) ts

-- A diagram is true where the variables have the values of a path from it.
abbrev pub PathsAreTrue : Type 0
PathsAreTrue = (f : Forest) (first : Bool) (d : Diagram) (ts : List Turn) (v : ℕ → Bool) → IsForest f → IsPath f first d ts → Follows v ts → value v f d ≡ true

-- No variable stands twice on a path, so there are values that follow it.
abbrev pub PathsRise : Type 0
PathsRise = (f : Forest) (first : Bool) (d : Diagram) (ts : List Turn) → IsForest f → IsPath f first d ts → RisesFrom 0 ts
