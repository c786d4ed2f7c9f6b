-- The words of two lists, merged one after another.
use Rattle.std.proofs.Common.{◌≡◌, ℕ, ◌+◌, ◌*◌, ◌<◌, ◌≤◌, ◌⊎◌, inl, inr, Bool, cond, List, [], ◌∷◌, ◌++◌, length, sym, ap, ◌∙◌, subst, arith}
use Rattle.std.proofs.lemmas.List.{get_or_append_left, get_or_push, length_push}
use Rattle.std.proofs.lemmas.Bool.{cases_lt}
use Rattle.wb_term.specs.declared.nodes.WordId.{WordId}
use Rattle.wb_term.specs.declared.nodes.BitId.{BitId}
use Rattle.wb_term.specs.declared.nodes.Node.{Node}
use Rattle.wb_term.specs.Terms.{Terms, HasWord, HasBit}
use Rattle.wb_term.specs.Values.{IsWord, word_value, bit_value}
use Rattle.wb_term.specs.Under.{HasOnly}
use Rattle.wb_term.specs.Growth.{Grown, AddsAtMost}
use Rattle.wb_make.specs.Inputs.{BringsOnly}
use Rattle.wb_fold.specs.Ram.{word_in, HasWords, AreWords, WordsHaveOnly, merged}
use Rattle.wb_point.proofs.Growth.{◌▸◌}

-- Every entry of a longer list is one of the list before, or the new one.
pushed_word : (words : List WordId) (w : WordId) (P : ℕ → WordId → Type 0) → ((k : ℕ) → k < length words → P k (word_in words k)) → P (length words) w →
    (k : ℕ) → k < length (words ++ w ∷ []) → P k (word_in (words ++ w ∷ []) k)
pushed_word words w P old new k within = by (cases_lt k (length words)) where
  by : (k < length words) ⊎ (length words ≤ k) → P k (word_in (words ++ w ∷ []) k)
  by (inl h) = subst (P k) (sym (get_or_append_left words (w ∷ []) (record { number = 0 }) k h)) (old k h)
  by (inr h) =
      let e : k ≡ length words = omega (arith, h, within, length_push words w) in
      subst (P k) (sym (get_or_push words w (record { number = 0 }) k (sym e))) (subst (λ (n : ℕ). P n w) (sym e) new)

-- the first entries, merged
pub record MergingWords (g0 g : Terms) (c : BitId) (one other words : List WordId) (at : ℕ) : Type 0 where
  pub len : length words ≡ at
  pub are : AreWords g words (λ inputs k. merged inputs g0 c one other k)
  pub inputs : (allowed : Node → Bool) → HasOnly g0 allowed c.number → WordsHaveOnly g0 allowed one → WordsHaveOnly g0 allowed other → WordsHaveOnly g allowed words
  pub grown : Grown g0 g
  pub adds : AddsAtMost g0 g at (16 * at)

pub merging_words_more : (g0 g g1 : Terms) (c : BitId) (one other words after : List WordId) (x y w : WordId) (at : ℕ) → MergingWords g0 g c one other words at →
    HasBit g0 c → HasWords g0 one → HasWords g0 other → length one ≡ length other → at < length one → x ≡ word_in one at → y ≡ word_in other at →
    IsWord g1 w (λ i. cond (bit_value i g c) (word_value i g x) (word_value i g y)) → BringsOnly g g1 (c.number ∷ x.number ∷ y.number ∷ []) w.number →
    Grown g g1 → AddsAtMost g g1 1 16 → after ≡ words ++ w ∷ [] → MergingWords g0 g1 c one other after (at + 1)
merging_words_more g0 g g1 c one other words after x y w at so has_bit has_one has_other long within first second is brings grown adds pushed =
    subst (λ (ws : List WordId). MergingWords g0 g1 c one other ws (at + 1)) (sym pushed) (record {
      len = length_push words w ∙ ap (λ (n : ℕ). n + 1) so.len;
      are = record {
        word = pushed_word words w (λ k id. IsWord g1 id (λ i. merged i g0 c one other k))
            (λ k h. let old = so.are.word k h in
            record { there = grown.words (word_in words k) old.there; value = λ i ok. grown.word_values i (word_in words k) old.there ∙ old.value i ok })
            (record {
              there = is.there;
              value = λ i ok.
                  let bits = so.grown.bit_values i c has_bit in
                  let ones = ap (λ (id : WordId). word_value i g id) first ∙ so.grown.word_values i (word_in one at) one_there in
                  let others = ap (λ (id : WordId). word_value i g id) second ∙ so.grown.word_values i (word_in other at) other_there in
                  is.value i ok ∙ ap (λ (b : Bool). cond b (word_value i g x) (word_value i g y)) bits
                  ∙ ap (λ (n : ℕ). cond (bit_value i g0 c) n (word_value i g y)) ones
                  ∙ ap (λ (n : ℕ). cond (bit_value i g0 c) (word_value i g0 (word_in one at)) n) others
                  ∙ ap (λ (n : ℕ). merged i g0 c one other n) (sym so.len);
            });
      };
      inputs = λ p bit_only ones_only others_only. record {
        only = pushed_word words w (λ k id. HasOnly g1 p id.number)
            (λ k h. grown.word_inputs p (word_in words k) (so.are.word k h).there ((so.inputs p bit_only ones_only others_only).only k h))
            (brings p (
              so.grown.bit_inputs p c has_bit bit_only,
              (
                subst (λ (id : WordId). HasOnly g p id.number) (sym first) (so.grown.word_inputs p (word_in one at) one_there (ones_only.only at one_in)),
                (subst (λ (id : WordId). HasOnly g p id.number) (sym second) (so.grown.word_inputs p (word_in other at) other_there (others_only.only at other_in)), tt),
              ),
            ));
      };
      grown = so.grown ▸ grown;
      adds = record {
        longer_by = omega (arith, so.adds.longer_by, adds.longer_by);
        heavier_by = omega (arith, so.adds.heavier_by, adds.heavier_by);
      };
    }) where
      one_in : at < length one
      one_in = within

      other_in : at < length other
      other_in = omega (arith, long, within)

      one_there : HasWord g0 (word_in one at)
      one_there = has_one.there at one_in

      other_there : HasWord g0 (word_in other at)
      other_there = has_other.there at other_in
