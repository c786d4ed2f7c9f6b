-- A graph grows by a node.
use Rattle.std.proofs.Common.{◌≡◌, ℕ, ◌<◌, ◌^◌, Bool, true, List, [], ◌∷◌, ◌++◌, Option, length, slice_get, refl, sym, ap, ◌∙◌, subst, arith, inl, inr, eqb, length-append}
use Rattle.std.proofs.lemmas.List.Sums.{sum_by-append}
use Rattle.wb_term.specs.declared.nodes.Node.{Node}
use Rattle.wb_term.specs.Nodes.{children, is_input, weight, Each}
use Rattle.wb_term.specs.Inputs.{Assignment}
use Rattle.wb_term.specs.Terms.{Terms, Tables, IsGraph, IsPlaced, holds_word, holds_bit}
use Rattle.wb_term.specs.Values.{node_value, value}
use Rattle.wb_term.specs.Under.{HasOnly}
use Rattle.wb_term.specs.Growth.{Grown, AddsAtMost, Gains, IsInterned, with_node, total_weight}
use Rattle.wb_term.proofs.Placed.{word_below, bit_below, Each-map, Each-both, IsPlaced-below, children_below}
use Rattle.wb_term.proofs.Values.{values-append, value-at, node_value-same}
use Rattle.wb_term.proofs.Push.{slice_get-push_old, slice_get-append_left, IsGraph-interned}
use Rattle.wb_term.proofs.Under.{under-push, HasOnly-push, HasOnly-node}

pub value-push : (i : Assignment) (g : Terms) (n : Node) (k : ℕ) → k < length g.nodes → value i (with_node g n) k ≡ value i g k
unfolding value
value-push i g n k h = values-append g.tables i g.nodes (n ∷ []) k h

pub Grown-refl : (g : Terms) → Grown g g
Grown-refl g = record {
  tables = refl;
  longer = omega arith;
  nodes = λ k n h. h;
  before = λ k n l h. h;
  words = λ x h. h;
  bits = λ c h. h;
  word_values = λ i x h. refl;
  bit_values = λ i c h. refl;
  word_inputs = λ p x h only. only;
  bit_inputs = λ p c h only. only;
  under = λ j k h u. u;
}

some-push : (p : Option Node → Bool) → (ns : List Node) (m : Node) (k : ℕ) → k < length ns → p (slice_get ns k) ≡ true → p (slice_get (ns ++ m ∷ []) k) ≡ true
some-push p ns m k h e = subst (λ (o : Option Node). p o ≡ true) (sym (slice_get-append_left ns (m ∷ []) k h)) e

pub Grown-push : (g : Terms) (n : Node) → IsGraph g → Grown g (with_node g n)
Grown-push g n is = record {
  tables = refl;
  longer = omega (arith, length-append g.nodes (n ∷ []));
  nodes = λ k m h. slice_get-push_old g.nodes n k m h;
  before = λ k m l h. sym (slice_get-append_left g.nodes (n ∷ []) k l) ∙ h;
  words = λ x h. some-push holds_word g.nodes n x.number (word_below g x h) h;
  bits = λ c h. some-push holds_bit g.nodes n c.number (bit_below g c h) h;
  word_values = λ i x h. value-push i g n x.number (word_below g x h);
  bit_values = λ i c h. ap (λ (v : ℕ). eqb v 1) (value-push i g n c.number (bit_below g c h));
  word_inputs = λ p x h only. HasOnly-push g n is p x.number (word_below g x h) only;
  bit_inputs = λ p c h only. HasOnly-push g n is p c.number (bit_below g c h) only;
  under = λ j k h u. under-push g n is j k u h;
}

pub Grown-interned : (g h : Terms) (n : Node) (number : ℕ) → IsInterned g h n number → IsGraph g → Grown g h
Grown-interned g h n number interned is =
    elim interned.added [
      | inl same ↦ subst (λ (t : Terms). Grown g t) (sym same) (Grown-refl g)
      | inr new ↦ subst (λ (t : Terms). Grown g t) (sym new.0) (Grown-push g n is)
    ]

pub AddsAtMost-interned : (g h : Terms) (n : Node) (number : ℕ) → IsInterned g h n number → AddsAtMost g h 1 (weight n)
unfolding total_weight
AddsAtMost-interned g h n number interned =
    elim interned.added [
      | inl same ↦ subst (λ (t : Terms). AddsAtMost g t 1 (weight n)) (sym same) (record { longer_by = omega arith; heavier_by = omega arith })
      | inr new ↦ subst (λ (t : Terms). AddsAtMost g t 1 (weight n)) (sym new.0) (record {
        longer_by = omega (arith, length-append g.nodes (n ∷ []));
        heavier_by = omega (arith, sum_by-append weight g.nodes (n ∷ []));
      })
    ]

pub value-interned : (g h : Terms) (n : Node) (number : ℕ) → IsInterned g h n number → (i : Assignment) (k : ℕ) → k < length g.nodes → value i h k ≡ value i g k
value-interned g h n number interned i k below =
    elim interned.added [
      | inl same ↦ ap (λ (t : Terms). value i t k) same
      | inr new ↦ ap (λ (t : Terms). value i t k) new.0 ∙ value-push i g n k below
    ]

-- the node that was given a number has the value of its kind
pub node_value-interned : (g h : Terms) (n : Node) (number : ℕ) → IsInterned g h n number → IsGraph g → IsGraph h → IsPlaced g n →
    (i : Assignment) → value i h number ≡ node_value g.tables i (value i g) n
node_value-interned g h n number interned is is_h placed i =
    let here = value-at i h number n interned.at (children_below h number n (is_h.placed number n interned.at)) in
    let stays : (c : ℕ) → c < length g.nodes → value i h c ≡ value i g c = value-interned g h n number interned i in
    let kept = node_value-same g.tables i (value i h) (value i g) n (Each-map _ _ stays (children n) (IsPlaced-below g n placed)) in
    let tables = (Grown-interned g h n number interned is).tables in
    here ∙ (subst (λ (t : Tables). node_value t i (value i h) n ≡ node_value g.tables i (value i g) n) (sym tables) kept)

-- only such inputs stand under the node as under its children
pub HasOnly-interned : (g h : Terms) (n : Node) (number : ℕ) → IsInterned g h n number → IsGraph g → IsPlaced g n →
    (p : Node → Bool) → (is_input n ≡ true → p n ≡ true) → Each (HasOnly g p) (children n) → HasOnly h p number
HasOnly-interned g h n number interned is placed p own each = HasOnly-node h p number n interned.at own
    (Each-map _ _ (λ c both. stays c both.0 both.1) (children n) (Each-both _ _ (children n) (IsPlaced-below g n placed) each)) where
      stays : (c : ℕ) → c < length g.nodes → HasOnly g p c → HasOnly h p c
      stays c below only = elim interned.added [
        | inl same ↦ subst (λ (t : Terms). HasOnly t p c) (sym same) only
        | inr new ↦ subst (λ (t : Terms). HasOnly t p c) (sym new.0) (HasOnly-push g n is p c below only)
      ]

pub Gains-interned : (g h : Terms) (n : Node) (number : ℕ) → IsInterned g h n number → IsGraph g → IsPlaced g n → length g.nodes < 2 ^ 31 → Gains g h n number
Gains-interned g h n number interned is placed room = record {
  at = interned.at;
  means = node_value-interned g h n number interned is (IsGraph-interned g h n number interned is placed room) placed;
  inputs = HasOnly-interned g h n number interned is placed;
  grown = Grown-interned g h n number interned is;
  adds = AddsAtMost-interned g h n number interned;
}
