-- The values of the nodes below a number stand in their slots.
use Rattle.std.proofs.Common.{◌≡◌, ◌≢◌, ℕ, ◌+◌, ◌<◌, ◌≤◌, List, length, get_or, set, ◌∙◌, arith, below_more, get_or-set_other, get_or-set_same}
use Rattle.std.proofs.Math.ListN.{length-set}
use Rattle.wb_term.specs.declared.nodes.Node.{Node}
use Rattle.wb_term.specs.Nodes.{children, Each}
use Rattle.wb_term.specs.Inputs.{Assignment}
use Rattle.wb_term.specs.Terms.{Terms}
use Rattle.wb_term.specs.Values.{AreWords, node_value, value}
use Rattle.wb_term.proofs.Placed.{Each-map}
use Rattle.wb_term.proofs.Values.{node_value-same}

pub record IsSettled (inputs : Assignment) (g : Terms) (first slots : List ℕ) (end : ℕ) : Type 0 where
  pub covers : length slots ≡ length first
  pub words : (k : ℕ) → k < end → get_or slots k 0 < 65536
  pub values : (k : ℕ) → k < end → get_or slots k 0 ≡ value inputs g k

-- the children of a node have their values there
pub AreWords-below : (slots : List ℕ) (end at : ℕ) (n : List ℕ) → at ≤ end → end ≤ length slots → ((k : ℕ) → k < end → get_or slots k 0 < 65536) →
    Each (λ c. c < at) n → AreWords slots n
AreWords-below slots end at n within covered words below =
    Each-map _ _ (λ c h. (omega (arith, h), words c (omega (arith, h)))) n below

-- a node's value of the slots is its value
pub node_value-settled : (inputs : Assignment) (g : Terms) (slots : List ℕ) (end at : ℕ) (n : Node) → at ≤ end →
    ((k : ℕ) → k < end → get_or slots k 0 ≡ value inputs g k) → Each (λ c. c < at) (children n) →
    node_value g.tables inputs (λ k. get_or slots k 0) n ≡ node_value g.tables inputs (value inputs g) n
node_value-settled inputs g slots end at n within values below =
    node_value-same g.tables inputs _ _ n (Each-map _ _ (λ c h. values c (omega (arith, h))) (children n) below)

-- one slot more
pub IsSettled-more : (inputs : Assignment) (g : Terms) (first slots : List ℕ) (at v : ℕ) → IsSettled inputs g first slots at →
    at < length first → v < 65536 → v ≡ value inputs g at → IsSettled inputs g first (set slots at v) (at + 1)
IsSettled-more inputs g first slots at v is within word same = record {
  covers = length-set slots at v ∙ is.covers;
  words = below_more _ at
      (λ k h. let ne : k ≢ at = omega arith in rw get_or-set_other (is.words k h))
      (let l : at < length slots = omega (arith, is.covers) in rw get_or-set_same word);
  values = below_more _ at
      (λ k h. let ne : k ≢ at = omega arith in rw get_or-set_other (is.values k h))
      (let l : at < length slots = omega (arith, is.covers) in rw get_or-set_same same);
}
