-- The gate number of some bits: the weights of the distinct nodes under them, added up.
use Rattle.std.specs.Prelude.{◌≡◌, ℕ, List, [], ◌∷◌, Option, Some, None, slice_get}
use Rattle.std.specs.List.{sum_by}
use Rattle.wb_term.specs.declared.nodes.BitId.{BitId}
use Rattle.wb_term.specs.declared.nodes.Node.{Node}
use Rattle.wb_term.specs.Nodes.{weight, IsAmong}
use Rattle.wb_term.specs.Terms.{Terms}
use Rattle.wb_term.specs.Under.{IsUnder}

-- the node of a number stands under one of these bits
pub record IsUnderAny (g : Terms) (bits : List BitId) (j : ℕ) : Type 0 where
  pub place : ℕ
  pub bit : BitId
  pub at : slice_get bits place ≡ Some bit
  pub under : IsUnder g j bit.number

-- no number stands twice in the list
abbrev pub AreDistinct : List ℕ → Type 0
AreDistinct [] = Unit {0}
AreDistinct (k ∷ ks) = (IsAmong k ks → ⊥) × AreDistinct ks

-- the numbers of the nodes under some bits, each once
pub record AreTheNodesUnder (g : Terms) (bits : List BitId) (ks : List ℕ) : Type 0 where
  pub distinct : AreDistinct ks
  pub each : (j : ℕ) → IsAmong j ks → IsUnderAny g bits j
  pub all : (j : ℕ) → IsUnderAny g bits j → IsAmong j ks

abbrev pub weight_in : Option Node → ℕ
weight_in None = 0
weight_in (Some n) = weight n

-- the weight of the node of a number
abbrev pub weight_at : Terms → ℕ → ℕ
weight_at g k = weight_in (slice_get g.nodes k)

-- the sum of the weights of the distinct nodes under some bits
pub record IsGateNumber (g : Terms) (bits : List BitId) (number : ℕ) : Type 0 where
  pub ks : List ℕ
  pub nodes : AreTheNodesUnder g bits ks
  pub total : number ≡ sum_by (weight_at g) ks
