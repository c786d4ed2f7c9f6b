-- The walk that meets the nodes under some bits and numbers the places of the inputs. No public clause cites this.
use Rattle.std.specs.Prelude.{◌≡◌, ℕ, zero, suc, ◌+◌, ◌-◌, ◌*◌, ◌<◌, ◌≤◌, ◌⊎◌, ◌==◌, List, [], ◌∷◌, ◌++◌, Some, length, slice_get, slice_index, slice_set}
use Rattle.std.specs.List.{sum_by}
use Rattle.wb_term.specs.declared.nodes.BitId.{BitId}
use Rattle.wb_term.specs.declared.nodes.Node.{Node}
use Rattle.wb_term.specs.declared.nodes.Node.TheVariants.{Word, Bit}
use Rattle.wb_term.specs.declared.nodes.WordNode.{WordNode}
use Rattle.wb_term.specs.declared.nodes.WordNode.TheVariants as word
use Rattle.wb_term.specs.Nodes.{children, weight, Each, IsAmong}
use Rattle.wb_term.specs.Numbers.{bit}
use Rattle.wb_term.specs.Terms.{Terms}
use Rattle.wb_blast.specs.declared.meeting.Met.{Met}
use Rattle.wb_blast.specs.declared.places.Place.{Place}
use Rattle.wb_blast.specs.declared.places.Place.TheVariants.{Byte, Cell}
use Rattle.wb_blast.specs.Number.{IsUnderAny, IsGateNumber, AreDistinct, weight_at}
use Rattle.wb_blast.specs.Places.{ArePlaces}

-- the places of the lowest bits, the highest of them first
abbrev pub places_down : (ℕ → Place) → ℕ → List Place
places_down place zero = []
places_down place (suc n) = place n ∷ places_down place n

-- the places of a node's bits
abbrev pub word_places : WordNode → List Place
word_places (word.Byte place) = places_down (Byte place) 8
word_places (word.Cell place) = places_down (Cell place) 16
word_places n = []

abbrev pub node_places : Node → List Place
node_places (Word n) = word_places n
node_places (Bit n) = []

-- the slot of a node that was met has one more than the number of the places before its own
abbrev pub IsMet : List ℕ → ℕ → Type 0
IsMet slots k = 0 < slice_index slots k

-- the places stand from this number on
abbrev pub StandsAt : List Place → ℕ → List Place → Type 0
StandsAt places first own = (j : ℕ) → j < length own → slice_get places (first + j) ≡ slice_get own j

-- no place stands twice
abbrev pub EachOnce : List Place → Type 0
EachOnce places = (j k : ℕ) (place : Place) → slice_get places j ≡ Some place → slice_get places k ≡ Some place → j ≡ k

-- how many slots are zero
abbrev pub unmet : List ℕ → ℕ
unmet slots = sum_by (λ s. bit (s == 0)) slots

-- the numbers are put onto a stack
pub record Stacks (old new numbers : List ℕ) : Type 0 where
  pub count : length new ≡ length old + length numbers
  pub stays : (j : ℕ) → IsAmong j old → IsAmong j new
  pub put : (j : ℕ) → IsAmong j numbers → IsAmong j new
  pub only : (j : ℕ) → IsAmong j new → IsAmong j old ⊎ IsAmong j numbers

-- Met nodes have their weights summed and their places numbered, and their children are met or on the stack.
pub record Meeting (g : Terms) (bits : List BitId) (met : Met) (stack : List ℕ) : Type 0 where
  pub covers : length met.slots ≡ length g.nodes
  pub roots : (place : ℕ) (bit : BitId) → slice_get bits place ≡ Some bit → IsMet met.slots bit.number ⊎ IsAmong bit.number stack
  pub closed : (k : ℕ) (n : Node) → IsMet met.slots k → slice_get g.nodes k ≡ Some n → (c : ℕ) → IsAmong c (children n) → IsMet met.slots c ⊎ IsAmong c stack
  pub sound : (j : ℕ) → IsMet met.slots j ⊎ IsAmong j stack → IsUnderAny g bits j
  pub stacked : (j : ℕ) → IsAmong j stack → j < length g.nodes
  pub ks : List ℕ
  pub distinct : AreDistinct ks
  pub each : (j : ℕ) → IsAmong j ks → IsMet met.slots j
  pub all : (j : ℕ) → IsMet met.slots j → IsAmong j ks
  pub summed : met.weight ≡ sum_by (weight_at g) ks
  pub few : met.weight + 32768 * unmet met.slots ≤ 32768 * length g.nodes
  pub numbered : (k : ℕ) (n : Node) → IsMet met.slots k → slice_get g.nodes k ≡ Some n → StandsAt met.places.items (slice_index met.slots k - 1) (node_places n)
  pub owned : (x : ℕ) (place : Place) → slice_get met.places.items x ≡ Some place → (k : ℕ) × (n : Node) × IsMet met.slots k × (slice_get g.nodes k ≡ Some n) × (j : ℕ) × (slice_get (node_places n) j ≡ Some place)
  pub once : EachOnce met.places.items

-- all nodes under the bits are met, and no others
pub record HasMet (g : Terms) (bits : List BitId) (met : Met) : Type 0 where
  pub covers : length met.slots ≡ length g.nodes
  pub roots : (place : ℕ) (bit : BitId) → slice_get bits place ≡ Some bit → IsMet met.slots bit.number
  pub closed : (k : ℕ) (n : Node) → IsMet met.slots k → slice_get g.nodes k ≡ Some n → (c : ℕ) → IsAmong c (children n) → IsMet met.slots c
  pub sound : (j : ℕ) → IsMet met.slots j → IsUnderAny g bits j
  pub number : IsGateNumber g bits met.weight
  pub numbered : (k : ℕ) (n : Node) → IsMet met.slots k → slice_get g.nodes k ≡ Some n → StandsAt met.places.items (slice_index met.slots k - 1) (node_places n)
  pub wanted : ArePlaces g bits met.places.items
  pub few : length met.places.items ≤ 4224

-- a node that is met for the first time
pub record IsNewlyMet (g : Terms) (number : ℕ) (old new : Met) (before after : List ℕ) (n : Node) : Type 0 where
  pub node : slice_get g.nodes number ≡ Some n
  pub idle : slice_index old.slots number ≡ 0
  pub below : Each (λ k. k < number) (children n)
  pub slots : new.slots ≡ slice_set old.slots number (length old.places.items + 1)
  pub places : new.places.items ≡ old.places.items ++ node_places n
  pub weight : new.weight ≡ old.weight + weight n
  pub stack : Stacks before after (children n)

-- what meeting the node of a number does
abbrev pub Meets : Terms → ℕ → Met → Met → List ℕ → List ℕ → Type 0
Meets g number old new before after = (IsMet old.slots number × (new ≡ old) × (after ≡ before)) ⊎ ((n : Node) × IsNewlyMet g number old new before after n)

-- the stack has the numbers of these bits, and no others
pub record StacksBits (bits : List BitId) (stack : List ℕ) : Type 0 where
  pub put : (place : ℕ) (bit : BitId) → slice_get bits place ≡ Some bit → IsAmong bit.number stack
  pub only : (j : ℕ) → IsAmong j stack → (place : ℕ) × (bit : BitId) × (slice_get bits place ≡ Some bit) × (bit.number ≡ j)
