-- The nodes under a number: its own node, the children, their children and so on.
use Rattle.std.specs.Prelude.{◌≡◌, ℕ, Bool, true, Some, slice_get, slice_index}
use Rattle.wb_term.specs.declared.nodes.WordNode.TheVariants.{Byte, Cell}
use Rattle.wb_term.specs.declared.nodes.Node.{Node}
use Rattle.wb_term.specs.declared.nodes.Node.TheVariants.{Word}
use Rattle.wb_term.specs.Nodes.{children, is_input, IsAmong}
use Rattle.wb_term.specs.Inputs.{Assignment}
use Rattle.wb_term.specs.Terms.{Terms}

-- the node of the first number stands under that of the second
pub data IsUnder (g : Terms) : ℕ → ℕ → Type 0 where
  Itself : (j k : ℕ) → j ≡ k → IsUnder g j k
  Below : (j k c : ℕ) (n : Node) → slice_get g.nodes k ≡ Some n → IsAmong c (children n) → IsUnder g j c → IsUnder g j k

-- every input node under a number passes a test
pub record HasOnly (g : Terms) (allowed : Node → Bool) (k : ℕ) : Type 0 where
  pub passes : (j : ℕ) (n : Node) → IsUnder g j k → slice_get g.nodes j ≡ Some n → is_input n ≡ true → allowed n ≡ true

-- two assignments give every input node under a number the same value
pub record AgreesUnder (g : Terms) (k : ℕ) (one other : Assignment) : Type 0 where
  pub bytes : (j place : ℕ) → IsUnder g j k → slice_get g.nodes j ≡ Some (Word (Byte place)) → slice_index one.bytes place ≡ slice_index other.bytes place
  pub cells : (j place : ℕ) → IsUnder g j k → slice_get g.nodes j ≡ Some (Word (Cell place)) → slice_index one.cells place ≡ slice_index other.cells place
