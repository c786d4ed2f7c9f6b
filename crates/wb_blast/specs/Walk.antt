-- The walk that marks the nodes under some bits, from the greatest number down. No public clause cites this.
use Rattle.std.specs.Prelude.{◌≡◌, ℕ, ◌<◌, ◌≤◌, ◌*◌, ◌-◌, ◌⊎◌, List, Some, length, slice_get, slice_index}
use Rattle.std.specs.List.{sum_by}
use Rattle.wb_term.specs.declared.nodes.BitId.{BitId}
use Rattle.wb_term.specs.declared.nodes.Node.{Node}
use Rattle.wb_term.specs.Nodes.{children, weight, Each, IsAmong}
use Rattle.wb_term.specs.Terms.{Terms}
use Rattle.wb_blast.specs.Number.{IsUnderAny, AreDistinct, weight_at}

-- a slot of 1 marks the node of its number
abbrev pub IsMarked : List ℕ → ℕ → Type 0
IsMarked slots k = slice_index slots k ≡ 1

-- these numbers are marked, and beyond what was marked no others
pub record Marks (old new numbers : List ℕ) : Type 0 where
  pub covers : length new ≡ length old
  pub marked : Each (IsMarked new) numbers
  pub stays : (j : ℕ) → IsMarked old j → IsMarked new j
  pub only : (j : ℕ) → IsMarked new j → IsMarked old j ⊎ IsAmong j numbers

-- a marked node that is visited marks its children and gives its weight
pub record Passes (g : Terms) (old new : List ℕ) (at found : ℕ) (n : Node) : Type 0 where
  pub node : slice_get g.nodes at ≡ Some n
  pub was : IsMarked old at
  pub below : Each (λ k. k < at) (children n)
  pub marks : Marks old new (children n)
  pub heavy : found ≡ weight n

-- what a visit to a number does
abbrev pub Visits : Terms → List ℕ → List ℕ → ℕ → ℕ → Type 0
Visits g old new at found = ((IsMarked old at → ⊥) × (new ≡ old) × (found ≡ 0)) ⊎ ((n : Node) × Passes g old new at found n)

-- the bits are marked, and nothing else below the end
pub record Begins (bits : List BitId) (slots : List ℕ) (end : ℕ) : Type 0 where
  pub roots : (place : ℕ) (bit : BitId) → slice_get bits place ≡ Some bit → IsMarked slots bit.number
  pub only : (j : ℕ) → j < end → IsMarked slots j → (place : ℕ) × (bit : BitId) × (slice_get bits place ≡ Some bit) × (bit.number ≡ j)

-- each node below the end was visited from this number upwards
pub record Walked (g : Terms) (bits : List BitId) (first slots : List ℕ) (end at total : ℕ) : Type 0 where
  pub covers : length slots ≡ length first
  pub roots : (place : ℕ) (bit : BitId) → slice_get bits place ≡ Some bit → IsMarked slots bit.number
  pub closed : (k : ℕ) (n : Node) → at ≤ k → k < end → IsMarked slots k → slice_get g.nodes k ≡ Some n → Each (IsMarked slots) (children n)
  pub below : (k : ℕ) (n : Node) → at ≤ k → k < end → IsMarked slots k → slice_get g.nodes k ≡ Some n → Each (λ c. c < k) (children n)
  pub sound : (j : ℕ) → j < end → IsMarked slots j → IsUnderAny g bits j
  pub ks : List ℕ
  pub distinct : AreDistinct ks
  pub each : (j : ℕ) → IsAmong j ks → (at ≤ j) × (j < end) × IsMarked slots j
  pub all : (j : ℕ) → at ≤ j → j < end → IsMarked slots j → IsAmong j ks
  pub summed : total ≡ sum_by (weight_at g) ks
  pub few : total ≤ 32768 * (end - at)
