-- Inputs that are filled in from values, place by place. No public clause cites this.
use Rattle.std.specs.Prelude.{◌≡◌, ℕ, ◌<◌, ◌≤◌, Bool, false, List, Some, length, slice_get}
use Rattle.wb_term.specs.Inputs.{Assignment}
use Rattle.wb_blast.specs.declared.places.Place.{Place}
use Rattle.wb_blast.specs.declared.places.Place.TheVariants.{Byte, Cell}
use Rattle.wb_blast.specs.Places.{place_value}
use Rattle.wb_query.specs.Oracles.{assigned}

-- the place and its bit are there
abbrev pub IsInRange : Place → Type 0
IsInRange (Byte place b) = (place < 16) × (b < 8)
IsInRange (Cell place b) = (place < 256) × (b < 16)

-- the places are there, and pairwise different
pub record ArePlacesInRange (places : List Place) : Type 0 where
  pub once : (j k : ℕ) (place : Place) → slice_get places j ≡ Some place → slice_get places k ≡ Some place → j ≡ k
  pub range : (k : ℕ) (place : Place) → slice_get places k ≡ Some place → IsInRange place

-- the places below a number have their values, and the others are false
pub record Filled (places : List Place) (values : List Bool) (inputs : Assignment) (at : ℕ) : Type 0 where
  pub bytes_len : length inputs.bytes ≡ 16
  pub cells_len : length inputs.cells ≡ 256
  pub done : (k : ℕ) (place : Place) → k < at → slice_get places k ≡ Some place → place_value inputs place ≡ assigned values k
  pub open_yet : (k : ℕ) (place : Place) → at ≤ k → slice_get places k ≡ Some place → place_value inputs place ≡ false
