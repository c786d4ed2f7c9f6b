-- A node has one value under inputs that agree on what stands under it.
use Rattle.std.proofs.Common.{◌≡◌, ℕ, ◌<◌, ◌≤◌, zero, suc, Some, length, slice_get, refl, sym, ◌∙◌, arith, inl, inr}
use Rattle.std.proofs.lemmas.List.{get_or_past}
use Rattle.std.proofs.lemmas.Option.{slice_get_cases}
use Rattle.wb_term.specs.declared.nodes.WordNode.TheVariants.{Byte, Cell}
use Rattle.wb_term.specs.declared.nodes.Node.{Node}
use Rattle.wb_term.specs.declared.nodes.Node.TheVariants.{Word, Bit}
use Rattle.wb_term.specs.Nodes.{children}
use Rattle.wb_term.specs.Inputs.{Assignment}
use Rattle.wb_term.specs.Terms.{Terms, Tables, IsGraph}
use Rattle.wb_term.specs.Under.{Itself, Below, AgreesUnder}
use Rattle.wb_term.specs.Values.{node_value, values, value}
use Rattle.wb_term.proofs.Placed.{Each-from, children_below}
use Rattle.wb_term.proofs.Values.{value-at, node_value-same, length-values}
use Rattle.wb_term.proofs.Under.{child_below}
use Rattle.wb_term.specs.Laws.{ValuesAgree}

-- the node itself reads the inputs alike
node_value-agrees : (t : Tables) (g : Terms) (one other : Assignment) (k : ℕ) → AgreesUnder g k one other → (f : ℕ → ℕ) (n : Node) →
    slice_get g.nodes k ≡ Some n → node_value t one f n ≡ node_value t other f n
node_value-agrees t g one other k agrees f (Word (Byte place)) at = agrees.bytes k place (Itself k k refl) at
node_value-agrees t g one other k agrees f (Word (Cell place)) at = agrees.cells k place (Itself k k refl) at
node_value-agrees t g one other k agrees f (Word _) at = refl
node_value-agrees t g one other k agrees f (Bit n) at = refl

past : (g : Terms) (one other : Assignment) (k : ℕ) → length g.nodes ≤ k → value one g k ≡ value other g k
unfolding value
past g one other k h =
    get_or_past (values g.tables one g.nodes) k 0 (omega (arith, length-values g.tables one g.nodes))
    ∙ sym (get_or_past (values g.tables other g.nodes) k 0 (omega (arith, length-values g.tables other g.nodes)))

agree_below : (g : Terms) → IsGraph g → (one other : Assignment) (m k : ℕ) → k < m → AgreesUnder g k one other → value one g k ≡ value other g k
agree_below g is one other zero k h agrees = absurd (omega arith)
agree_below g is one other (suc m) k h agrees = elim (slice_get_cases g.nodes k).1 [
  | inl here ↦
      let n = here.0 in
      let below = children_below g k n (is.placed k n here.2) in
      let same = node_value-same g.tables one (value one g) (value other g) n
      (Each-from _ (children n) (λ c among.
      let l = child_below g is k c n here.2 among in
      agree_below g is one other m c (omega (arith, l, h)) (record {
        bytes = λ j place u at. agrees.bytes j place (Below j k c n here.2 among u) at;
        cells = λ j place u at. agrees.cells j place (Below j k c n here.2 among u) at;
      }))) in
      value-at one g k n here.2 below ∙ same ∙ node_value-agrees g.tables g one other k agrees (value other g) n here.2 ∙ sym (value-at other g k n here.2 below)
  | inr h2 ↦ past g one other k h2.0
]

pub values-agree : ValuesAgree
values-agree g is one other k agrees = agree_below g is one other (suc k) k (omega arith) agrees
