-- The diagrams under one, and how many they are.
use Rattle.std.specs.Prelude.{◌≡◌, ℕ, ◌<◌, ◌≤◌, List, Some, length, slice_get}
use Rattle.wb_diagram.specs.declared.nodes.Diagram.{Diagram}
use Rattle.wb_diagram.specs.declared.nodes.Node.TheVariants.{Split}
use Rattle.wb_diagram.specs.Forest.{Forest, HasDiagram}

-- the second diagram is the first, or a child of one that stands under it
pub data IsUnder (f : Forest) (d : Diagram) : Diagram → Type 0 where
  Itself : (c : Diagram) → c ≡ d → IsUnder f d c
  Low : (e c other : Diagram) (x : ℕ) → IsUnder f d e → slice_get f.nodes e.number ≡ Some (Split x c other) → IsUnder f d c
  High : (e c other : Diagram) (x : ℕ) → IsUnder f d e → slice_get f.nodes e.number ≡ Some (Split x other c) → IsUnder f d c

abbrev pub IsMember : Diagram → List Diagram → Type 0
IsMember c ks = (k : ℕ) × (slice_get ks k ≡ Some c)

-- diagrams under one, none of them twice
pub record AreUnder (f : Forest) (d : Diagram) (ks : List Diagram) : Type 0 where
  pub distinct : (j k : ℕ) (c : Diagram) → slice_get ks j ≡ Some c → slice_get ks k ≡ Some c → j ≡ k
  pub there : (k : ℕ) (c : Diagram) → slice_get ks k ≡ Some c → HasDiagram f c
  pub under : (k : ℕ) (c : Diagram) → slice_get ks k ≡ Some c → IsUnder f d c

-- A diagram was added to a list where it wasn't in it.
pub record IsAdded (old new : List Diagram) (c : Diagram) : Type 0 where
  pub kept : (k : ℕ) (e : Diagram) → slice_get old k ≡ Some e → slice_get new k ≡ Some e
  pub member : IsMember c new
  pub longer : length old ≤ length new
  pub under : (f : Forest) (d : Diagram) → AreUnder f d old → HasDiagram f c → IsUnder f d c → AreUnder f d new

-- The children of a diagram were added.
pub record Sees (f : Forest) (c : Diagram) (old new : List Diagram) : Type 0 where
  pub kept : (k : ℕ) (e : Diagram) → slice_get old k ≡ Some e → slice_get new k ≡ Some e
  pub children : (low high : Diagram) (x : ℕ) → slice_get f.nodes c.number ≡ Some (Split x low high) → IsMember low new × IsMember high new
  pub longer : length old ≤ length new
  pub under : (d : Diagram) → AreUnder f d old → IsUnder f d c → AreUnder f d new

-- So many diagrams stand under one; at the limit there are at least so many.
pub record IsSize (f : Forest) (d : Diagram) (limit size : ℕ) : Type 0 where
  pub members : List Diagram
  pub are : AreUnder f d members
  pub within : size ≤ limit
  pub some : size ≤ length members
  pub whole : size < limit → (size ≡ length members) × ((c : Diagram) → IsUnder f d c → IsMember c members)
