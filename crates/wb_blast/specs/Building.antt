-- The rows of the nodes that were met, made in order of number. No public clause cites this.
use Rattle.std.specs.Prelude.{◌≡◌, ◌==◌, ℕ, ◌+◌, ◌-◌, ◌<◌, ◌≤◌, ◌⊎◌, List, [], ◌∷◌, ◌++◌, Some, length, slice_get, slice_index, slice_set}
use Rattle.std.specs.List.{sum_by}
use Rattle.wb_gate.specs.Circuit.{Circuit}
use Rattle.wb_gate.specs.Growth.{Extends}
use Rattle.wb_term.specs.declared.nodes.Node.{Node}
use Rattle.wb_term.specs.declared.nodes.Node.TheVariants.{Word, Bit}
use Rattle.wb_term.specs.Nodes.{children, weight, IsAmong}
use Rattle.wb_term.specs.Terms.{Terms}
use Rattle.wb_term.specs.Values.{value}
use Rattle.wb_equal.specs.declared.entries.Entry.{Entry}
use Rattle.wb_blast.specs.declared.rows.Rows.{Rows}
use Rattle.wb_blast.specs.Meeting.{node_places, IsMet, StandsAt}
use Rattle.wb_blast.specs.Number.{AreDistinct, weight_at}
use Rattle.wb_blast.specs.Rows.{IsWordOf, IsBitOf, HasWordRow, HasBitRow, HasWordParts, HasBitParts}

-- the node of a number is done
abbrev pub HasRow : Terms → Circuit → Rows → ℕ → Node → Type 0
HasRow g c r k (Word n) = HasWordRow g c r k
HasRow g c r k (Bit n) = HasBitRow g c r k

-- its children are done
abbrev pub HasParts : Terms → Circuit → Rows → Node → Type 0
HasParts g c r (Word n) = HasWordParts g c r n
HasParts g c r (Bit n) = HasBitParts g c r n

-- the node of a number can be made a row
pub record CanBuild (g : Terms) (c : Circuit) (r : Rows) (number : ℕ) (n : Node) : Type 0 where
  pub parts : HasParts g c r n
  pub stands : StandsAt r.places.items (slice_index r.slots number - 1) (node_places n)
  pub inputs : c.inputs ≡ length r.places.items
  pub few : length r.places.items ≤ 8192
  pub room : length c.gates + weight n ≤ c.limit

-- a row is put behind those of its sort, and the node's slot tells where it stands
abbrev pub AddsRow : Terms → Circuit → Rows → Rows → ℕ → Node → Type 0
AddsRow g c old new number (Word n) =
    (w : List Entry) × (new.words.items ≡ old.words.items ++ w ∷ []) × (new.bits ≡ old.bits)
    × (new.slots ≡ slice_set old.slots number (length old.words.items + 1)) × IsWordOf c old.places.items w (λ i. value i g number)
AddsRow g c old new number (Bit n) =
    (e : Entry) × (new.bits.items ≡ old.bits.items ++ e ∷ []) × (new.words ≡ old.words)
    × (new.slots ≡ slice_set old.slots number (length old.bits.items + 1)) × IsBitOf c old.places.items e (λ i. value i g number == 1)

-- a node is made a row
pub record IsBuiltRow (g : Terms) (before after : Circuit) (old new : Rows) (number : ℕ) (n : Node) : Type 0 where
  pub extends : Extends before after (weight n)
  pub places : new.places ≡ old.places
  pub adds : AddsRow g after old new number n

-- what building the node of a number does
abbrev pub Builds : Terms → Circuit → Circuit → Rows → Rows → ℕ → Type 0
Builds g before after old new number =
    ((slice_index old.slots number ≡ 0) × (after ≡ before) × (new ≡ old))
    ⊎ ((n : Node) × (slice_get g.nodes number ≡ Some n) × IsMet old.slots number × IsBuiltRow g before after old new number n)

-- Which nodes are to be done: with each its children, all together of at most this weight. The inputs' places stand.
pub record IsReady (g : Terms) (limit : ℕ) (r : Rows) : Type 0 where
  pub covers : length r.slots ≡ length g.nodes
  pub closed : (k : ℕ) (n : Node) → IsMet r.slots k → slice_get g.nodes k ≡ Some n → (c : ℕ) → IsAmong c (children n) → IsMet r.slots c
  pub numbered : (k : ℕ) (n : Node) → IsMet r.slots k → slice_get g.nodes k ≡ Some n → StandsAt r.places.items (slice_index r.slots k - 1) (node_places n)
  pub few : length r.places.items ≤ 8192
  pub ks : List ℕ
  pub all : (j : ℕ) → IsMet r.slots j → IsAmong j ks
  pub light : sum_by (weight_at g) ks ≤ limit

-- the nodes below a number are done
pub record Building (g : Terms) (ready : Rows) (limit : ℕ) (c : Circuit) (r : Rows) (at : ℕ) : Type 0 where
  pub inputs : c.inputs ≡ length ready.places.items
  pub same_limit : c.limit ≡ limit
  pub places : r.places ≡ ready.places
  pub covers : length r.slots ≡ length g.nodes
  pub few_words : length r.words.items ≤ at
  pub few_bits : length r.bits.items ≤ at
  pub done : (k : ℕ) (n : Node) → k < at → IsMet ready.slots k → slice_get g.nodes k ≡ Some n → HasRow g c r k n
  pub rest : (k : ℕ) → at ≤ k → slice_index r.slots k ≡ slice_index ready.slots k
  pub ds : List ℕ
  pub distinct : AreDistinct ds
  pub each : (j : ℕ) → IsAmong j ds → (j < at) × IsMet ready.slots j
  pub gates : length c.gates ≤ sum_by (weight_at g) ds
