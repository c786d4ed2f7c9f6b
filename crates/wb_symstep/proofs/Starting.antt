-- The chip at power-up, and the words of the RAM's start one after another.
use Rattle.std.proofs.Common.{◌≡◌, ℕ, ◌+◌, ◌<◌, ◌≤◌, ◌⊎◌, Bool, true, false, List, [], ◌∷◌, ◌++◌, length, replicate, refl, sym, ◌∙◌, ap, subst, inl, inr, arith, lit<, slice_index}
use Rattle.std.proofs.lemmas.List.{get_or-replicate, length-replicate, get_or_append_left, get_or_push, length_push}
use Rattle.std.proofs.lemmas.Bool.{cases_lt}
use Rattle.wb_term.specs.declared.nodes.Node.{Node}
use Rattle.wb_term.specs.declared.nodes.Node.TheVariants.{Word}
use Rattle.wb_term.specs.declared.nodes.WordNode.TheVariants.{Cell}
use Rattle.wb_term.specs.declared.nodes.WordId.{WordId}
use Rattle.wb_term.specs.Nodes.{Each}
use Rattle.wb_term.specs.Inputs.{Assignment, IsAssignment}
use Rattle.wb_term.specs.Terms.{Terms, HasWord}
use Rattle.wb_term.specs.Values.{IsWord, word_value}
use Rattle.wb_term.specs.Under.{HasOnly}
use Rattle.wb_term.specs.Growth.{Grown, AddsAtMost}
use Rattle.wb_fold.specs.declared.flags.SymFlags.{SymFlags}
use Rattle.wb_fold.specs.Flags.{flags_value, flag_numbers, HasFlags}
use Rattle.wb_fold.specs.Ram.{word_in, AreWords, HasWords, WordsHaveOnly}
use Rattle.wb_machine.specs.State.{power, no_flags}
use Rattle.wb_symstep.specs.declared.state.SymState.{SymState}
use Rattle.wb_symstep.specs.declared.work.Constants.{Constants}
use Rattle.wb_symstep.specs.State.{status, StandsFor, IsSymState, StateHasOnly}
use Rattle.wb_symstep.specs.Starts.{AreConstants}
use Rattle.wb_symstep.proofs.Growth.{◌▸◌}

abbrev all : Constants → SymFlags
all c = record { c = c.clear; z = c.clear; s0 = c.clear; s1 = c.clear; ov0 = c.clear; ov1 = c.clear }

abbrev state_of : Constants → List WordId → SymState
state_of c ram = record {
  pc = 0;
  sp = 0;
  stack = replicate 4 0;
  rqm = false;
  drs = false;
  rp = c.last;
  dp = c.zero;
  a = c.zero;
  b = c.zero;
  tr = c.zero;
  trb = c.zero;
  k = c.zero;
  l = c.zero;
  dr = c.zero;
  sr = c.zero;
  so = c.zero;
  flags_a = all c;
  flags_b = all c;
  ram = ram;
}

module _ (g : Terms) (c : Constants) (are : AreConstants g c) where
  has_flags : HasFlags g (all c)
  has_flags = record { c = are.clear.there; z = are.clear.there; s0 = are.clear.there; s1 = are.clear.there; ov0 = are.clear.there; ov1 = are.clear.there }

  only_flags : (p : Node → Bool) → Each (HasOnly g p) (flag_numbers (all c))
  only_flags p = let o = are.clear_only p in (o, (o, (o, (o, (o, (o, tt))))))

  are_flags : (inputs : Assignment) → IsAssignment inputs → flags_value inputs g (all c) ≡ no_flags
  are_flags inputs ok = let e = are.clear.value inputs ok in cc

  pub start_is : (ram : List WordId) → length ram ≡ 256 → HasWords g ram → IsSymState g (state_of c ram)
  start_is ram len has = record {
    pc_in = lit< tt;
    sp_in = lit< tt;
    stack_length = refl;
    stack_in = λ k h. subst (λ (n : ℕ). n < 2048) (sym (get_or-replicate {A = ℕ} 4 k 0 0 h)) (lit< tt);
    rp = are.last.there;
    dp = are.zero.there;
    a = are.zero.there;
    b = are.zero.there;
    tr = are.zero.there;
    trb = are.zero.there;
    k = are.zero.there;
    l = are.zero.there;
    dr = are.zero.there;
    sr = are.zero.there;
    so = are.zero.there;
    flags_a = has_flags;
    flags_b = has_flags;
    ram_length = len;
    ram = has;
  }

  pub start_stands : (inputs : Assignment) (words : List ℕ) (ram : List WordId) → IsAssignment inputs
      → ((k : ℕ) → k < 256 → word_value inputs g (word_in ram k) ≡ slice_index words k) → StandsFor inputs g (state_of c ram) (power words)
  unfolding power
  start_stands inputs words ram ok cells =
      let zero = are.zero.value inputs ok in
      record {
        pc = refl;
        sp = refl;
        stack = refl;
        rp = are.last.value inputs ok;
        dp = zero;
        a = zero;
        b = zero;
        tr = zero;
        trb = zero;
        k = zero;
        l = zero;
        dr = zero;
        sr = ap (status false false) zero;
        so = zero;
        flags_a = are_flags inputs ok;
        flags_b = are_flags inputs ok;
        ram = cells;
      }

  pub start_only : (p : Node → Bool) (ram : List WordId) → WordsHaveOnly g p ram → StateHasOnly g p (state_of c ram)
  start_only p ram only =
      let zero = are.zero_only p in
      record {
        rp = are.last_only p;
        dp = zero;
        a = zero;
        b = zero;
        tr = zero;
        trb = zero;
        k = zero;
        l = zero;
        dr = zero;
        sr = zero;
        so = zero;
        flags_a = only_flags p;
        flags_b = only_flags p;
        ram = only;
      }

-- Every entry of a longer list is one of the list before, or the new one.
pushed_entry : (words : List WordId) (w : WordId) (P : ℕ → WordId → Type 0) → ((k : ℕ) → k < length words → P k (word_in words k)) → P (length words) w →
    (k : ℕ) → k < length (words ++ w ∷ []) → P k (word_in (words ++ w ∷ []) k)
pushed_entry words w P old new k within = by (cases_lt k (length words)) where
  by : (k < length words) ⊎ (length words ≤ k) → P k (word_in (words ++ w ∷ []) k)
  by (inl h) = subst (P k) (sym (get_or_append_left words (w ∷ []) (record { number = 0 }) k h)) (old k h)
  by (inr h) =
      let e : k ≡ length words = omega (arith, h, within, length_push words w) in
      subst (P k) (sym (get_or_push words w (record { number = 0 }) k (sym e))) (subst (λ (n : ℕ). P n w) (sym e) new)

-- the test passes the words of the RAM's start
abbrev pub AllowsCells : (Node → Bool) → Type 0
AllowsCells allowed = (place : ℕ) → place < 256 → allowed (Word (Cell place)) ≡ true

-- the first words of the RAM's start
pub record AreFirst (old g : Terms) (words : List WordId) (at : ℕ) : Type 0 where
  pub len : length words ≡ at
  pub are : AreWords g words (λ inputs k. slice_index inputs.cells k)
  pub only : (allowed : Node → Bool) → AllowsCells allowed → WordsHaveOnly g allowed words
  pub grown : Grown old g
  pub adds : AddsAtMost old g at 0

pub one_more : (old g h : Terms) (words after : List WordId) (w : WordId) (at place : ℕ) → AreFirst old g words at → at < 256 → place ≡ at
    → IsWord h w (λ inputs. slice_index inputs.cells place) → ((allowed : Node → Bool) → allowed (Word (Cell place)) ≡ true → HasOnly h allowed w.number)
    → Grown g h → AddsAtMost g h 1 0 → after ≡ words ++ w ∷ [] → AreFirst old h after (at + 1)
one_more old g h words after w at place so within placed is brings grown adds pushed =
    subst (λ (ws : List WordId). AreFirst old h ws (at + 1)) (sym pushed) (record {
      len = length_push words w ∙ ap (λ (n : ℕ). n + 1) so.len;
      are = record {
        word = pushed_entry words w (λ k id. IsWord h id (λ inputs. slice_index inputs.cells k))
            (λ k in_words. let before = so.are.word k in_words in
            record { there = grown.words (word_in words k) before.there; value = λ i ok. grown.word_values i (word_in words k) before.there ∙ before.value i ok })
            (record { there = is.there; value = λ i ok. is.value i ok ∙ ap (slice_index i.cells) (placed ∙ sym so.len) });
      };
      only = λ p allows. record {
        only = pushed_entry words w (λ k id. HasOnly h p id.number)
            (λ k in_words. grown.word_inputs p (word_in words k) (so.are.word k in_words).there ((so.only p allows).only k in_words))
            (brings p (allows place (subst (λ (n : ℕ). n < 256) (sym placed) within)));
      };
      grown = so.grown ▸ grown;
      adds = record {
        longer_by = omega (arith, so.adds.longer_by, adds.longer_by);
        heavier_by = omega (arith, so.adds.heavier_by, adds.heavier_by);
      };
    })

-- a RAM of one constant
pub zeros_are : (g : Terms) (c : Constants) (ram : List WordId) → AreConstants g c → ram ≡ replicate 256 c.zero
    → (length ram ≡ 256) × HasWords g ram × ((inputs : Assignment) → IsAssignment inputs → (k : ℕ) → k < 256 → word_value inputs g (word_in ram k) ≡ slice_index (replicate 256 0) k)
zeros_are g c ram are e = (
  ap length e ∙ length-replicate {A = WordId} 256 c.zero,
  record { there = λ k h. subst (HasWord g) (sym (entry k (subst (λ (n : ℕ). k < n) (ap length e ∙ length-replicate {A = WordId} 256 c.zero) h))) are.zero.there },
  λ i ok k h. ap (word_value i g) (entry k h) ∙ are.zero.value i ok ∙ sym (get_or-replicate {A = ℕ} 256 k 0 0 h),
) where
  entry : (k : ℕ) → k < 256 → word_in ram k ≡ c.zero
  entry k h = ap (λ (xs : List WordId). word_in xs k) e ∙ get_or-replicate {A = WordId} 256 k c.zero (record { number = 0 }) h

pub zeros_only : (g : Terms) (c : Constants) (ram : List WordId) → AreConstants g c → ram ≡ replicate 256 c.zero → (p : Node → Bool) → WordsHaveOnly g p ram
zeros_only g c ram are e p = record {
  only = λ k h. subst (λ (x : WordId). HasOnly g p x.number) (sym (entry k (subst (λ (n : ℕ). k < n) (ap length e ∙ length-replicate {A = WordId} 256 c.zero) h))) (are.zero_only p);
} where
  entry : (k : ℕ) → k < 256 → word_in ram k ≡ c.zero
  entry k h = ap (λ (xs : List WordId). word_in xs k) e ∙ get_or-replicate {A = WordId} 256 k c.zero (record { number = 0 }) h

-- the words of the RAM's start in a graph that grew
pub cells_are : (g h : Terms) → Grown g h → (words ram : List WordId) → length words ≡ 256 → AreWords g words (λ inputs k. slice_index inputs.cells k) → ram ≡ words
    → (length ram ≡ 256) × HasWords h ram × ((inputs : Assignment) → IsAssignment inputs → (k : ℕ) → k < 256 → word_value inputs h (word_in ram k) ≡ slice_index inputs.cells k)
cells_are g h grown words ram len are e = subst
    (λ (ids : List WordId). (length ids ≡ 256) × HasWords h ids × ((inputs : Assignment) → IsAssignment inputs → (k : ℕ) → k < 256 → word_value inputs h (word_in ids k) ≡ slice_index inputs.cells k))
    (sym e) (
      len,
      record { there = λ k within. grown.words (word_in words k) (are.word k within).there },
      λ i ok k within.
          let word = are.word k (subst (λ (n : ℕ). k < n) (sym len) within) in
          grown.word_values i (word_in words k) word.there ∙ word.value i ok,
    )

pub cells_only : (g h : Terms) → Grown g h → (words ram : List WordId) → AreWords g words (λ inputs k. slice_index inputs.cells k) → ram ≡ words
    → (p : Node → Bool) → WordsHaveOnly g p words → WordsHaveOnly h p ram
cells_only g h grown words ram are e p o =
    subst (λ (ids : List WordId). WordsHaveOnly h p ids) (sym e)
    (record { only = λ k within. grown.word_inputs p (word_in words k) (are.word k within).there (o.only k within) })
