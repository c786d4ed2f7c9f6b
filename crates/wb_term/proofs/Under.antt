-- What stands under a node: its number is no greater, and it stays when a node is added.
use Rattle.std.proofs.Common.{◌≡◌, ℕ, ◌<◌, ◌≤◌, Bool, true, List, [], ◌∷◌, ◌++◌, Some, length, slice_get, sym, subst, arith, inl, inr}
use Rattle.wb_term.specs.declared.nodes.Node.{Node}
use Rattle.wb_term.specs.Nodes.{children, is_input, Each, IsAmong}
use Rattle.wb_term.specs.Terms.{Terms, IsGraph}
use Rattle.wb_term.specs.Under.{IsUnder, Itself, Below, HasOnly}
use Rattle.wb_term.specs.Growth.{with_node}
use Rattle.wb_term.proofs.Placed.{Each-at, Each-from, children_below}
use Rattle.wb_term.proofs.Push.{slice_get-push_cases}

-- a child of a node has a smaller number
pub child_below : (g : Terms) → IsGraph g → (k c : ℕ) (n : Node) → slice_get g.nodes k ≡ Some n → IsAmong c (children n) → c < k
child_below g is k c n at among = Each-at (λ c. c < k) (children n) c (children_below g k n (is.placed k n at)) among

pub under_at_most : (g : Terms) → IsGraph g → (j k : ℕ) → IsUnder g j k → j ≤ k
under_at_most g is _ _ (Itself j k e) = omega arith
under_at_most g is _ _ (Below j k c n at among u) =
    let below = child_below g is k c n at among in
    let rest = under_at_most g is j c u in
    omega (arith, below, rest)

old_node : (ns : List Node) (m : Node) (k : ℕ) (n : Node) → k < length ns → slice_get (ns ++ m ∷ []) k ≡ Some n → slice_get ns k ≡ Some n
old_node ns m k n h at = elim (slice_get-push_cases ns m k n at) [ inl old ↦ old | inr new ↦ absurd (omega (arith, new.0)) ]

-- nothing new stands under an old node
pub under-push : (g : Terms) (m : Node) → IsGraph g → (j k : ℕ) → IsUnder (with_node g m) j k → k < length g.nodes → IsUnder g j k
under-push g m is _ _ (Itself j k e) h = Itself j k e
under-push g m is _ _ (Below j k c n at among u) h =
    let old = old_node g.nodes m k n h at in
    let below = child_below g is k c n old among in
    Below j k c n old among (under-push g m is j c u (omega (arith, below)))

pub HasOnly-push : (g : Terms) (m : Node) → IsGraph g → (p : Node → Bool) (k : ℕ) → k < length g.nodes → HasOnly g p k → HasOnly (with_node g m) p k
HasOnly-push g m is p k h only = record {
  passes = λ j n u at input.
      let old = under-push g m is j k u h in
      let most = under_at_most g is j k old in
      only.passes j n old (old_node g.nodes m j n (omega (arith, most)) at) input;
}

-- what stands under a node is the node and what stands under its children
pub HasOnly-node : (g : Terms) (p : Node → Bool) (k : ℕ) (n : Node) → slice_get g.nodes k ≡ Some n →
    (is_input n ≡ true → p n ≡ true) → Each (HasOnly g p) (children n) → HasOnly g p k
HasOnly-node g p k n at own each = record { passes = λ j m u at_j input. by j k u n at own each m at_j input } where
  by : (j k : ℕ) → IsUnder g j k → (n : Node) → slice_get g.nodes k ≡ Some n → (is_input n ≡ true → p n ≡ true) →
      Each (HasOnly g p) (children n) → (m : Node) → slice_get g.nodes j ≡ Some m → is_input m ≡ true → p m ≡ true
  by _ _ (Itself j k e) n at own each m at_j input =
      let same : n ≡ m = cc in
      subst (λ (x : Node). p x ≡ true) same (own (subst (λ (x : Node). is_input x ≡ true) (sym same) input))
  by _ _ (Below j k c x at_k among u) n at own each m at_j input =
      let same : x ≡ n = cc in
      (Each-at (HasOnly g p) (children n) c each (subst (λ (y : Node). IsAmong c (children y)) same among)).passes j m u at_j input

-- what stands under a child stands under the node
pub HasOnly-children : (g : Terms) (p : Node → Bool) (k : ℕ) (n : Node) → slice_get g.nodes k ≡ Some n → HasOnly g p k → Each (HasOnly g p) (children n)
HasOnly-children g p k n at only = Each-from (HasOnly g p) (children n)
    (λ c among. record { passes = λ j m u at_j input. only.passes j m (Below j k c n at among u) at_j input })
