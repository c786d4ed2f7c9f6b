-- Words of diagrams, the lowest bit first, and the numbers that they stand for.
use Rattle.std.specs.Prelude.{◌≡◌, ℕ, ◌+◌, ◌*◌, Bool, if◌then◌else◌, List, [], ◌∷◌, slice_index_or}
use Rattle.wb_diagram.specs.declared.nodes.Diagram.{Diagram}
use Rattle.wb_diagram.specs.Forest.{Forest, HasDiagram}
use Rattle.wb_diagram.specs.Values.{value}

-- a bit as 0 or 1
abbrev pub bit : Bool → ℕ
bit b = if b then 1 else 0

-- the number that a list of diagrams stands for
abbrev pub number : (ℕ → Bool) → Forest → List Diagram → ℕ
number v f [] = 0
number v f (d ∷ ds) = bit (value v f d) + 2 * number v f ds

-- the diagram of a place; past the end the constant false, whose number is 0
abbrev pub diagram_at : List Diagram → ℕ → Diagram
diagram_at ds k = slice_index_or ds k (record { number = 0 })

-- each diagram is there
abbrev pub AreThere : Forest → List Diagram → Type 0
AreThere f ds = (k : ℕ) → HasDiagram f (diagram_at ds k)

-- the diagrams are there, and stand for this number under all values of the variables
pub record IsNumber (f : Forest) (ds : List Diagram) (meaning : (ℕ → Bool) → ℕ) : Type 0 where
  pub there : AreThere f ds
  pub value : (v : ℕ → Bool) → number v f ds ≡ meaning v

-- the number that some variables stand for, the lowest bit first
abbrev pub number_of : (ℕ → Bool) → List ℕ → ℕ
number_of v [] = 0
number_of v (x ∷ xs) = bit (v x) + 2 * number_of v xs
