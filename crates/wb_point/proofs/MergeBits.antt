-- The bits of two lists, merged one after another.
use Rattle.std.proofs.Common.{◌≡◌, ℕ, ◌+◌, ◌<◌, ◌≤◌, ◌⊎◌, inl, inr, Bool, cond, List, [], ◌∷◌, ◌++◌, length, sym, ap, ◌∙◌, subst, arith}
use Rattle.std.proofs.lemmas.List.{get_or_append_left, get_or_push, length_push}
use Rattle.std.proofs.lemmas.Bool.{cases_lt}
use Rattle.wb_term.specs.declared.nodes.BitId.{BitId}
use Rattle.wb_term.specs.declared.nodes.Node.{Node}
use Rattle.wb_term.specs.Terms.{Terms, HasBit}
use Rattle.wb_term.specs.Values.{IsBit, bit_value}
use Rattle.wb_term.specs.Under.{HasOnly}
use Rattle.wb_term.specs.Growth.{Grown, AddsAtMost}
use Rattle.wb_make.specs.Inputs.{BringsOnly}
use Rattle.wb_point.specs.Lists.{bit_in, HasBits, AreBits, BitsHaveOnly, merged_bit}
use Rattle.wb_point.proofs.Growth.{◌▸◌}

-- Every entry of a longer list is one of the list before, or the new one.
pushed_bit : (bits : List BitId) (w : BitId) (P : ℕ → BitId → Type 0) → ((k : ℕ) → k < length bits → P k (bit_in bits k)) → P (length bits) w →
    (k : ℕ) → k < length (bits ++ w ∷ []) → P k (bit_in (bits ++ w ∷ []) k)
pushed_bit bits w P old new k within = by (cases_lt k (length bits)) where
  by : (k < length bits) ⊎ (length bits ≤ k) → P k (bit_in (bits ++ w ∷ []) k)
  by (inl h) = subst (P k) (sym (get_or_append_left bits (w ∷ []) (record { number = 0 }) k h)) (old k h)
  by (inr h) =
      let e : k ≡ length bits = omega (arith, h, within, length_push bits w) in
      subst (P k) (sym (get_or_push bits w (record { number = 0 }) k (sym e))) (subst (λ (n : ℕ). P n w) (sym e) new)

-- the first bits, merged
pub record MergingBits (g0 g : Terms) (c : BitId) (one other bits : List BitId) (at : ℕ) : Type 0 where
  pub len : length bits ≡ at
  pub are : AreBits g bits (λ inputs k. merged_bit inputs g0 c one other k)
  pub inputs : (allowed : Node → Bool) → HasOnly g0 allowed c.number → BitsHaveOnly g0 allowed one → BitsHaveOnly g0 allowed other → BitsHaveOnly g allowed bits
  pub grown : Grown g0 g
  pub adds : AddsAtMost g0 g at at

pub merging_bits_more : (g0 g g1 : Terms) (c : BitId) (one other bits after : List BitId) (x y w : BitId) (at : ℕ) → MergingBits g0 g c one other bits at →
    HasBit g0 c → HasBits g0 one → HasBits g0 other → length one ≡ length other → at < length one → x ≡ bit_in one at → y ≡ bit_in other at →
    IsBit g1 w (λ i. cond (bit_value i g c) (bit_value i g x) (bit_value i g y)) → BringsOnly g g1 (c.number ∷ x.number ∷ y.number ∷ []) w.number →
    Grown g g1 → AddsAtMost g g1 1 1 → after ≡ bits ++ w ∷ [] → MergingBits g0 g1 c one other after (at + 1)
merging_bits_more g0 g g1 c one other bits after x y w at so has_bit has_one has_other long within first second is brings grown adds pushed =
    subst (λ (ws : List BitId). MergingBits g0 g1 c one other ws (at + 1)) (sym pushed) (record {
      len = length_push bits w ∙ ap (λ (n : ℕ). n + 1) so.len;
      are = record {
        bit = pushed_bit bits w (λ k id. IsBit g1 id (λ i. merged_bit i g0 c one other k))
            (λ k h. let old = so.are.bit k h in
            record { there = grown.bits (bit_in bits k) old.there; value = λ i ok. grown.bit_values i (bit_in bits k) old.there ∙ old.value i ok })
            (record {
              there = is.there;
              value = λ i ok.
                  let bits = so.grown.bit_values i c has_bit in
                  let ones = ap (λ (id : BitId). bit_value i g id) first ∙ so.grown.bit_values i (bit_in one at) one_there in
                  let others = ap (λ (id : BitId). bit_value i g id) second ∙ so.grown.bit_values i (bit_in other at) other_there in
                  is.value i ok ∙ ap (λ (b : Bool). cond b (bit_value i g x) (bit_value i g y)) bits
                  ∙ ap (λ (n : Bool). cond (bit_value i g0 c) n (bit_value i g y)) ones
                  ∙ ap (λ (n : Bool). cond (bit_value i g0 c) (bit_value i g0 (bit_in one at)) n) others
                  ∙ ap (λ (n : ℕ). merged_bit i g0 c one other n) (sym so.len);
            });
      };
      inputs = λ p bit_only ones_only others_only. record {
        only = pushed_bit bits w (λ k id. HasOnly g1 p id.number)
            (λ k h. grown.bit_inputs p (bit_in bits k) (so.are.bit k h).there ((so.inputs p bit_only ones_only others_only).only k h))
            (brings p (
              so.grown.bit_inputs p c has_bit bit_only,
              (
                subst (λ (id : BitId). HasOnly g p id.number) (sym first) (so.grown.bit_inputs p (bit_in one at) one_there (ones_only.only at one_in)),
                (subst (λ (id : BitId). HasOnly g p id.number) (sym second) (so.grown.bit_inputs p (bit_in other at) other_there (others_only.only at other_in)), tt),
              ),
            ));
      };
      grown = so.grown ▸ grown;
      adds = record {
        longer_by = omega (arith, so.adds.longer_by, adds.longer_by);
        heavier_by = omega (arith, so.adds.heavier_by, adds.heavier_by);
      };
    }) where
      one_in : at < length one
      one_in = within

      other_in : at < length other
      other_in = omega (arith, long, within)

      one_there : HasBit g0 (bit_in one at)
      one_there = has_one.there at one_in

      other_there : HasBit g0 (bit_in other at)
      other_there = has_other.there at other_in
