-- Which bytes of the inputs stand under a node.
use Rattle.std.specs.Prelude.{◌≡◌, ℕ, Bool, true, false, slice_index_or}
use Rattle.wb_term.specs.declared.nodes.Node.{Node}
use Rattle.wb_term.specs.declared.nodes.Node.TheVariants.{Word}
use Rattle.wb_term.specs.declared.nodes.WordNode.TheVariants.{Byte}
use Rattle.wb_term.specs.Nodes.{children, is_input, Each}
use Rattle.wb_term.specs.Terms.{Terms}
use Rattle.wb_term.specs.Under.{HasOnly}
use Rattle.wb_graph.specs.declared.places.Places.{Places}

-- the byte of the place is one of them
abbrev pub has_byte : Places → ℕ → Bool
has_byte p place = slice_index_or p.bytes place false

-- the test allows all of these bytes
abbrev pub AllowsBytes : (Node → Bool) → Places → Type 0
AllowsBytes allowed p = (place : ℕ) → has_byte p place ≡ true → allowed (Word (Byte place)) ≡ true

-- Only these bytes stand under the number, unless cells do, and each of them does.
pub record ArePlaces (g : Terms) (k : ℕ) (p : Places) : Type 0 where
  pub only : p.cells ≡ false → (allowed : Node → Bool) → AllowsBytes allowed p → HasOnly g allowed k
  pub each : (allowed : Node → Bool) → HasOnly g allowed k → AllowsBytes allowed p

-- The same of a node that may not be there yet: of itself and of what stands under its children.
pub record AreNodePlaces (g : Terms) (n : Node) (p : Places) : Type 0 where
  pub itself : p.cells ≡ false → (allowed : Node → Bool) → AllowsBytes allowed p → is_input n ≡ true → allowed n ≡ true
  pub only : p.cells ≡ false → (allowed : Node → Bool) → AllowsBytes allowed p → Each (HasOnly g allowed) (children n)
  pub each : (allowed : Node → Bool) → (is_input n ≡ true → allowed n ≡ true) → Each (HasOnly g allowed) (children n) → AllowsBytes allowed p

-- The same of two numbers together.
pub record ArePlacesOfTwo (g : Terms) (j k : ℕ) (p : Places) : Type 0 where
  pub only : p.cells ≡ false → (allowed : Node → Bool) → AllowsBytes allowed p → HasOnly g allowed j × HasOnly g allowed k
  pub each : (allowed : Node → Bool) → HasOnly g allowed j → HasOnly g allowed k → AllowsBytes allowed p
