-- Places: a bit of an input byte or of a word of the RAM's start. An assignment that gives each place its bit gives
-- the inputs.
use Rattle.std.specs.Prelude.{◌≡◌, ℕ, ◌<◌, ◌==◌, Bool, List, Some, slice_get, slice_index}
use Rattle.std.specs.Int.{bit_at}
use Rattle.wb_gate.specs.Circuit.{Circuit, Assignment}
use Rattle.wb_gate.specs.Clauses.{Satisfies}
use Rattle.wb_term.specs.declared.nodes.BitId.{BitId}
use Rattle.wb_term.specs.declared.nodes.Node.TheVariants.{Word}
use Rattle.wb_term.specs.declared.nodes.WordNode.TheVariants as word
use Rattle.wb_term.specs.Inputs.{Assignment as Inputs}
use Rattle.wb_term.specs.Terms.{Terms}
use Rattle.wb_blast.specs.declared.places.Place.{Place}
use Rattle.wb_blast.specs.declared.places.Place.TheVariants.{Byte, Cell}
use Rattle.wb_blast.specs.Number.{IsUnderAny}

-- the bit of the inputs at a place
abbrev pub place_value : Inputs → Place → Bool
place_value i (Byte place b) = bit_at (slice_index i.bytes place) b == 1
place_value i (Cell place b) = bit_at (slice_index i.cells place) b == 1

-- the assignment gives each input variable the bit of the inputs at the variable's place
pub record GivesInputs (v : Assignment) (places : List Place) (i : Inputs) : Type 0 where
  pub given : (x : ℕ) (place : Place) → slice_get places x ≡ Some place → v x ≡ place_value i place

-- some satisfying assignment gives these inputs
abbrev pub HasAssignment : Circuit → List Place → Inputs → Type 0
HasAssignment c places i = (v : Assignment) × Satisfies v c × GivesInputs v places i

-- the place is a bit of an input node under one of the bits
abbrev pub IsPlaceUnder : Terms → List BitId → Place → Type 0
IsPlaceUnder g bits (Byte place b) = (b < 8) × (j : ℕ) × (slice_get g.nodes j ≡ Some (Word (word.Byte place))) × IsUnderAny g bits j
IsPlaceUnder g bits (Cell place b) = (b < 16) × (j : ℕ) × (slice_get g.nodes j ≡ Some (Word (word.Cell place))) × IsUnderAny g bits j

-- the places are pairwise different, and each is a bit of an input node under one of the bits
pub record ArePlaces (g : Terms) (bits : List BitId) (places : List Place) : Type 0 where
  pub once : (j k : ℕ) (place : Place) → slice_get places j ≡ Some place → slice_get places k ≡ Some place → j ≡ k
  pub under : (k : ℕ) (place : Place) → slice_get places k ≡ Some place → IsPlaceUnder g bits place
