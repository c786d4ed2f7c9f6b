-- Choices between two diagrams by a third, and the memo of those that were made.
use Rattle.std.specs.Prelude.{◌≡◌, ℕ, ◌<◌, ◌≤◌, Bool, true, false, not, List, Some, length, slice_get, if◌then◌else◌}
use Rattle.wb_diagram.specs.declared.nodes.Diagram.{Diagram}
use Rattle.wb_diagram.specs.declared.nodes.Choice.{Choice}
use Rattle.wb_diagram.specs.declared.memo.Entry.{Entry}
use Rattle.wb_diagram.specs.Forest.{Forest, HasDiagram, level}
use Rattle.wb_diagram.specs.Values.{value}

-- the value of a choice
abbrev pub choice_value : (ℕ → Bool) → Forest → Choice → Bool
choice_value v f c = if value v f c.test then value v f c.yes else value v f c.no

-- its diagrams are there
pub record HasChoice (f : Forest) (c : Choice) : Type 0 where
  pub test : HasDiagram f c.test
  pub yes : HasDiagram f c.yes
  pub no : HasDiagram f c.no

-- the variable comes before all of the choice's in the order
pub record IsOver (f : Forest) (x : ℕ) (c : Choice) : Type 0 where
  pub test : x < level f c.test
  pub yes : x < level f c.yes
  pub no : x < level f c.no

-- the first variable of a choice
pub record IsFirst (f : Forest) (c : Choice) (x : ℕ) : Type 0 where
  pub test : x ≤ level f c.test
  pub yes : x ≤ level f c.yes
  pub no : x ≤ level f c.no
  pub last : (y : ℕ) → IsOver f y c → y < x

-- the diagram has the values of the choice, of no variable before the choice's
pub record IsChosen (f : Forest) (c : Choice) (d : Diagram) : Type 0 where
  pub there : HasDiagram f d
  pub value : (v : ℕ → Bool) → value v f d ≡ choice_value v f c
  pub over : (x : ℕ) → IsOver f x c → x < level f d

-- a choice as it is where a variable has a value
pub record IsBranch (f : Forest) (c : Choice) (x : ℕ) (side : Bool) (b : Choice) : Type 0 where
  pub there : HasChoice f b
  pub value : (v : ℕ → Bool) → v x ≡ side → choice_value v f b ≡ choice_value v f c
  pub over : IsOver f x b

-- the diagram has the values of the choice where a variable has a value, of later variables only
pub record IsHalf (f : Forest) (c : Choice) (x : ℕ) (side : Bool) (d : Diagram) : Type 0 where
  pub there : HasDiagram f d
  pub value : (v : ℕ → Bool) → v x ≡ side → value v f d ≡ choice_value v f c
  pub over : x < level f d

-- whether a choice has one value under all values of the variables
abbrev pub IsAnswer : Forest → Choice → Bool → Bool → Type 0
IsAnswer f c wanted true = (v : ℕ → Bool) → choice_value v f c ≡ wanted
IsAnswer f c wanted false = (v : ℕ → Bool) × (choice_value v f c ≡ not wanted)

-- whether the second diagram is true wherever the first is
abbrev pub IsImplied : Forest → Diagram → Diagram → Bool → Type 0
IsImplied f a b true = (v : ℕ → Bool) → value v f a ≡ true → value v f b ≡ true
IsImplied f a b false = (v : ℕ → Bool) × ((value v f a ≡ true) × (value v f b ≡ false))

-- whether the two diagrams are nowhere both true
abbrev pub AreDisjoint : Forest → Diagram → Diagram → Bool → Type 0
AreDisjoint f a b true = (v : ℕ → Bool) → value v f a ≡ true → value v f b ≡ false
AreDisjoint f a b false = (v : ℕ → Bool) × ((value v f a ≡ true) × (value v f b ≡ true))

-- what the memo holds is right
pub record IsEntry (f : Forest) (e : Entry) : Type 0 where
  pub choice : HasChoice f e.choice
  pub result : IsChosen f e.choice e.result

pub record IsMemo (f : Forest) (entries : List Entry) : Type 0 where
  pub some : 0 < length entries
  pub right : (k : ℕ) (e : Entry) → slice_get entries k ≡ Some e → IsEntry f e
