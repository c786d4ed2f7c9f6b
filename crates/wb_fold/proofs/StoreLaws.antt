-- A store by the bits of an address, one half of the list after the other.
use Rattle.std.proofs.Common.{◌≡◌, ◌≢◌, ℕ, ◌+◌, ◌-◌, ◌*◌, ◌%◌, ◌^◌, ◌<◌, ◌≤◌, Bool, true, false, cond, not, ◌&&◌, eqb, List, [], ◌∷◌, ◌++◌, length, take, drop, refl, sym, ap, ◌∙◌, subst, arith, ◌⊎◌, inl, inr, length-append, append_assoc, eq-eqb}
use Rattle.std.proofs.lemmas.List.{get_or-take, get_or-drop, length-take, length-drop, get_or_append_left, get_or-append-add}
use Rattle.std.proofs.lemmas.Bool.{cases_lt, cases_eq, ne_eqb}
use Rattle.wb_term.specs.declared.nodes.WordId.{WordId}
use Rattle.wb_term.specs.declared.nodes.BitId.{BitId}
use Rattle.wb_term.specs.declared.nodes.Node.{Node}
use Rattle.wb_term.specs.Nodes.{Each}
use Rattle.wb_term.specs.Inputs.{Assignment, IsAssignment}
use Rattle.wb_term.specs.Numbers.{bit}
use Rattle.wb_term.specs.Terms.{Terms, HasWord, HasBit}
use Rattle.wb_term.specs.Values.{IsWord, IsBit, word_value, bit_value}
use Rattle.wb_term.specs.Under.{HasOnly}
use Rattle.wb_term.specs.Growth.{Grown, AddsAtMost}
use Rattle.wb_fold.specs.declared.address.AddressBit.{AddressBit}
use Rattle.wb_fold.specs.Ram.{word_in, HasWords, AreWords, WordsHaveOnly, AreAddressBits, AddressHasOnly, address, stored, stored_where, AppendsStored}
use Rattle.wb_fold.proofs.Growth.{◌▸◌}
use Rattle.wb_fold.proofs.RamLaws.{HasWords-take, HasWords-drop, WordsHaveOnly-take, WordsHaveOnly-drop, WordsHaveOnly-kept, AreAddressBits-kept, address-kept, address-lt, AddressHasOnly-kept, power-opened}

pub AreWords-kept : (g h : Terms) → Grown g h → (ids : List WordId) (meaning : Assignment → ℕ → ℕ) → AreWords g ids meaning → AreWords h ids meaning
AreWords-kept g h grown ids meaning are = record {
  word = λ k l.
      let was = are.word k l in
      record {
        there = grown.words (word_in ids k) was.there;
        value = λ i is. grown.word_values i (word_in ids k) was.there ∙ was.value i is;
      };
}

pub AreWords-there : (g : Terms) (ids : List WordId) (meaning : Assignment → ℕ → ℕ) → AreWords g ids meaning → HasWords g ids
AreWords-there g ids meaning are = record { there = λ k l. (are.word k l).there }

-- two lists one after the other
AreWords-append : (g : Terms) (xs ys : List WordId) (meaning : Assignment → ℕ → ℕ) → AreWords g xs meaning →
    AreWords g ys (λ i k. meaning i (length xs + k)) → AreWords g (xs ++ ys) meaning
AreWords-append g xs ys meaning front back = record { word = λ k l. by k l (cases_lt k (length xs)) } where
  by : (k : ℕ) → k < length (xs ++ ys) → (k < length xs) ⊎ (length xs ≤ k) → IsWord g (word_in (xs ++ ys) k) (λ i. meaning i k)
  by k l (inl below) =
      subst (λ (x : WordId). IsWord g x (λ i. meaning i k)) (sym (get_or_append_left xs ys (record { number = 0 }) k below)) (front.word k below)
  by k l (inr past) =
      let rest = k - length xs in
      let split : length xs + rest ≡ k = omega arith in
      let within : rest < length ys = omega (arith, length-append xs ys) in
      let here : IsWord g (word_in (xs ++ ys) (length xs + rest)) (λ i. meaning i (length xs + rest)) =
      subst (λ (x : WordId). IsWord g x (λ i. meaning i (length xs + rest))) (sym (get_or-append-add xs ys rest (record { number = 0 }))) (back.word rest within) in
      subst (λ (n : ℕ). IsWord g (word_in (xs ++ ys) n) (λ i. meaning i n)) split here

WordsHaveOnly-append : (g : Terms) (p : Node → Bool) (xs ys : List WordId) → WordsHaveOnly g p xs → WordsHaveOnly g p ys → WordsHaveOnly g p (xs ++ ys)
WordsHaveOnly-append g p xs ys front back = record { only = λ k l. by k l (cases_lt k (length xs)) } where
  by : (k : ℕ) → k < length (xs ++ ys) → (k < length xs) ⊎ (length xs ≤ k) → HasOnly g p (word_in (xs ++ ys) k).number
  by k l (inl below) =
      subst (λ (x : WordId). HasOnly g p x.number) (sym (get_or_append_left xs ys (record { number = 0 }) k below)) (front.only k below)
  by k l (inr past) =
      let rest = k - length xs in
      let split : length xs + rest ≡ k = omega arith in
      let within : rest < length ys = omega (arith, length-append xs ys) in
      let here : HasOnly g p (word_in (xs ++ ys) (length xs + rest)).number =
      subst (λ (x : WordId). HasOnly g p x.number) (sym (get_or-append-add xs ys rest (record { number = 0 }))) (back.only rest within) in
      subst (λ (n : ℕ). HasOnly g p (word_in (xs ++ ys) n).number) split here

-- whether a place is that of the address, in either half
low_place : (here top : Bool) (half at k : ℕ) → k < half → ((here && not top) && eqb k at) ≡ (here && eqb k (bit top * half + at))
low_place true true half at k h = let ne : k ≢ 1 * half + at = omega arith in sym (ne_eqb k (1 * half + at) ne)
low_place true false half at k h = ap (eqb k) (omega arith)
low_place false true half at k h = refl
low_place false false half at k h = refl

same_shift : (half k at : ℕ) → eqb k at ≡ eqb (half + k) (1 * half + at)
same_shift half k at = by (cases_eq k at) where
  by : (k ≡ at) ⊎ (k ≢ at) → eqb k at ≡ eqb (half + k) (1 * half + at)
  by (inl e) = eq-eqb k at e ∙ sym (eq-eqb (half + k) (1 * half + at) (omega (arith, e)))
  by (inr ne) = ne_eqb k at ne ∙ sym (ne_eqb (half + k) (1 * half + at) (λ e. ne (omega (arith, e))))

high_place : (here top : Bool) (half at k : ℕ) → at < half → ((here && top) && eqb k at) ≡ (here && eqb (half + k) (bit top * half + at))
high_place true true half at k h = same_shift half k at
high_place true false half at k h = let ne : half + k ≢ 0 * half + at = omega arith in sym (ne_eqb (half + k) (0 * half + at) ne)
high_place false true half at k h = refl
high_place false false half at k h = refl

-- one choice between two words, where the condition and both words are equal
same_choice : (c d : Bool) (x y z w : ℕ) → c ≡ d → x ≡ y → z ≡ w → cond c x z ≡ cond d y w
same_choice c d x y z w e f g = cc

-- the parts of a store, and the whole
pub Appends-halves : (g0 g1 g2 g3 : Terms) → Grown g0 g1 → Grown g1 g2 → Grown g2 g3 → (words front back : List WordId) (bits : List AddressBit)
    (top : AddressBit) (rest : List AddressBit) (here low high : BitId) (value : WordId) (o0 o1 o2 : List WordId) (half : ℕ) →
    front ≡ take half words → back ≡ drop half words → bits ≡ top ∷ rest → half ≡ 2 ^ length rest → length words ≡ 2 ^ length bits →
    HasWords g0 words → AreAddressBits g0 bits → HasBit g0 here → HasWord g0 value →
    IsBit g1 low (λ i. bit_value i g0 here && not (bit_value i g0 top.set)) →
    IsBit g1 high (λ i. bit_value i g0 here && bit_value i g0 top.set) →
    ((p : Node → Bool) → Each (HasOnly g0 p) (here.number ∷ top.set.number ∷ top.clear.number ∷ []) → Each (HasOnly g1 p) (low.number ∷ high.number ∷ [])) →
    AppendsStored g1 g2 front rest low value o0 o1 → AppendsStored g2 g3 back rest high value o1 o2 →
    AppendsStored g0 g3 words bits here value o0 o2
Appends-halves g0 g1 g2 g3 a b c words front back bits top rest here low high value o0 o1 o2 half is_front is_back is_bits halved len has are there there_value is_low is_high in_parts first second = record {
  cells = first.cells ++ second.cells;
  appended = second.appended ∙ ap (λ (xs : List WordId). xs ++ second.cells) first.appended ∙ append_assoc o0 first.cells second.cells;
  len = omega (arith, length-append first.cells second.cells, first.len, second.len, front_len, back_len, len, whole);
  are = AreWords-append g3 first.cells second.cells _ fronts backs;
  inputs = λ p only_words only_bits only_here only_value.
      let bits_only = subst (AddressHasOnly g0 p) is_bits only_bits in
      let parts = in_parts p (only_here, (bits_only.0, (bits_only.1, tt))) in
      let rest_only = AddressHasOnly-kept g0 g1 a p rest bits_are.1 bits_only.2 in
      let value_only = a.word_inputs p value there_value only_value in
      let front_only = subst (WordsHaveOnly g1 p) (sym is_front) (WordsHaveOnly-kept g0 g1 a p (take half words) (HasWords-take g0 words half has) (WordsHaveOnly-take g0 p words half only_words)) in
      let back_only = subst (WordsHaveOnly g2 p) (sym is_back) (WordsHaveOnly-kept g0 g2 (a ▸ b) p (drop half words) (HasWords-drop g0 words half has) (WordsHaveOnly-drop g0 p words half only_words)) in
      let fronts_only = first.inputs p front_only rest_only parts.0 value_only in
      let backs_only = second.inputs p back_only (AddressHasOnly-kept g1 g2 b p rest (AreAddressBits-kept g0 g1 a rest bits_are.1) rest_only)
      (b.bit_inputs p high is_high.there parts.1.0) (b.word_inputs p value (a.words value there_value) value_only) in
      WordsHaveOnly-append g3 p first.cells second.cells
      (WordsHaveOnly-kept g2 g3 c p first.cells (AreWords-there g2 first.cells _ first.are) fronts_only) backs_only;
} where
  bits_are : AreAddressBits g0 (top ∷ rest)
  bits_are = subst (AreAddressBits g0) is_bits are

  whole : 2 ^ length bits ≡ 2 ^ length rest * 2
  whole = power-opened bits top rest is_bits

  front_len : length front ≡ half
  front_len = ap length is_front ∙ omega (arith, length-take half words, len, whole, halved)

  back_len : length back ≡ half
  back_len = ap length is_back ∙ omega (arith, length-drop half words, len, whole, halved)

  at : Assignment → ℕ
  at i = address i g0 rest

  at_whole : (i : Assignment) → address i g0 bits ≡ bit (bit_value i g0 top.set) * half + at i
  at_whole i = ap (address i g0) is_bits ∙ ap (λ (n : ℕ). bit (bit_value i g0 top.set) * n + at i) (sym halved)

  value_kept : (i : Assignment) → word_value i g1 value ≡ word_value i g0 value
  value_kept i = a.word_values i value there_value

  fronts : AreWords g3 first.cells (λ i k. stored_where i g0 words bits here value k)
  fronts = AreWords-kept g2 g3 c first.cells _ (record {
    word = λ k l.
        let was = first.are.word k l in
        let below : k < half = omega (arith, l, first.len, front_len) in
        let in_words : k < length words = omega (arith, below, len, whole, halved) in
        record {
          there = was.there;
          value = λ i is. was.value i is
              ∙ same_choice _ _ _ _ _ _
              (ap (λ (v : Bool). v && eqb k (address i g1 rest)) (is_low.value i is)
              ∙ ap (λ (n : ℕ). (bit_value i g0 here && not (bit_value i g0 top.set)) && eqb k n) (address-kept g0 g1 a i rest bits_are.1)
              ∙ low_place (bit_value i g0 here) (bit_value i g0 top.set) half (at i) k below
              ∙ ap (λ (n : ℕ). bit_value i g0 here && eqb k n) (sym (at_whole i)))
              (value_kept i)
              (ap (λ (ws : List WordId). word_value i g1 (word_in ws k)) is_front
              ∙ ap (λ (x : WordId). word_value i g1 x) (get_or-take half words k (record { number = 0 }) below)
              ∙ a.word_values i (word_in words k) (has.there k in_words));
        };
  })

  backs : AreWords g3 second.cells (λ i k. stored_where i g0 words bits here value (length first.cells + k))
  backs = record {
    word = λ k l.
        let was = second.are.word k l in
        let below : k < half = omega (arith, l, second.len, back_len) in
        let place : length first.cells + k ≡ half + k = omega (arith, first.len, front_len) in
        let in_words : half + k < length words = omega (arith, below, len, whole, halved) in
        record {
          there = was.there;
          value = λ i is. was.value i is
              ∙ same_choice _ _ _ _ _ _
              (ap (λ (v : Bool). v && eqb k (address i g2 rest)) (b.bit_values i high is_high.there ∙ is_high.value i is)
              ∙ ap (λ (n : ℕ). (bit_value i g0 here && bit_value i g0 top.set) && eqb k n) (address-kept g0 g2 (a ▸ b) i rest bits_are.1)
              ∙ high_place (bit_value i g0 here) (bit_value i g0 top.set) half (at i) k (subst (λ (n : ℕ). at i < n) (sym halved) (address-lt g0 i rest))
              ∙ ap (λ (n : ℕ). bit_value i g0 here && eqb (half + k) n) (sym (at_whole i))
              ∙ ap (λ (n : ℕ). bit_value i g0 here && eqb n (address i g0 bits)) (sym place))
              (b.word_values i value (a.words value there_value) ∙ value_kept i)
              (ap (λ (ws : List WordId). word_value i g2 (word_in ws k)) is_back
              ∙ ap (λ (x : WordId). word_value i g2 x) (get_or-drop half words k (record { number = 0 }))
              ∙ (a ▸ b).word_values i (word_in words (half + k)) (has.there (half + k) in_words)
              ∙ ap (λ (n : ℕ). word_value i g0 (word_in words n)) (sym place));
        };
  }

pub store-adds_none : (g0 g1 : Terms) (part whole : ℕ) → whole ≡ part * 2 → 0 < part → AddsAtMost g0 g1 2 2 → AddsAtMost g0 g1 (3 * whole - 2) (18 * whole - 2)
store-adds_none g0 g1 part whole e positive a = record {
  longer_by = omega (arith, a.longer_by);
  heavier_by = omega (arith, a.heavier_by);
}

pub store-adds_one : (g0 g1 g2 : Terms) (part whole : ℕ) → whole ≡ part * 2 → 0 < part → AddsAtMost g0 g1 2 2 →
    AddsAtMost g1 g2 (3 * part - 2) (18 * part - 2) → AddsAtMost g0 g2 (3 * whole - 2) (18 * whole - 2)
store-adds_one g0 g1 g2 part whole e positive a b = record {
  longer_by = omega (arith, a.longer_by, b.longer_by);
  heavier_by = omega (arith, a.heavier_by, b.heavier_by);
}

pub store-adds_two : (g0 g1 g2 g3 : Terms) (part whole : ℕ) → whole ≡ part * 2 → 0 < part → AddsAtMost g0 g1 2 2 →
    AddsAtMost g1 g2 (3 * part - 2) (18 * part - 2) → AddsAtMost g2 g3 (3 * part - 2) (18 * part - 2) → AddsAtMost g0 g3 (3 * whole - 2) (18 * whole - 2)
store-adds_two g0 g1 g2 g3 part whole e positive a b c = record {
  longer_by = omega (arith, a.longer_by, b.longer_by, c.longer_by);
  heavier_by = omega (arith, a.heavier_by, b.heavier_by, c.heavier_by);
}

-- a store that always happens, at the low 8 bits of a word
pub stored-always : (g0 g2 g3 : Terms) → Grown g0 g2 → (ram : List WordId) (bits : List AddressBit) (always : BitId) (dp value : WordId) (out : List WordId) →
    HasWords g0 ram → HasWord g0 value → ((i : Assignment) → IsAssignment i → bit_value i g2 always ≡ true) →
    ((i : Assignment) → IsAssignment i → address i g2 bits ≡ word_value i g0 dp % 256) → AppendsStored g2 g3 ram bits always value [] out →
    AreWords g3 out (λ i k. stored i g0 ram dp value k)
stored-always g0 g2 g3 grown ram bits always dp value out has there_value set at_dp appends =
    subst (λ (ids : List WordId). AreWords g3 ids (λ i k. stored i g0 ram dp value k)) (sym appends.appended) (record {
      word = λ k l.
          let was = appends.are.word k l in
          let in_ram : k < length ram = omega (arith, l, appends.len) in
          record {
            there = was.there;
            value = λ i is. was.value i is
                ∙ same_choice _ _ _ _ _ _
                (ap (λ (v : Bool). v && eqb k (address i g2 bits)) (set i is) ∙ ap (eqb k) (at_dp i is))
                (grown.word_values i value there_value)
                (grown.word_values i (word_in ram k) (has.there k in_ram));
          };
    })

pub stored-inputs : (g0 g2 g3 : Terms) → Grown g0 g2 → (ram : List WordId) (bits : List AddressBit) (always : BitId) (dp value : WordId) (out : List WordId) →
    HasWords g0 ram → HasWord g0 value → ((p : Node → Bool) → HasOnly g2 p always.number) →
    ((p : Node → Bool) → HasOnly g0 p dp.number → AddressHasOnly g2 p bits) → AppendsStored g2 g3 ram bits always value [] out →
    (p : Node → Bool) → WordsHaveOnly g0 p ram → HasOnly g0 p dp.number → HasOnly g0 p value.number → WordsHaveOnly g3 p out
stored-inputs g0 g2 g3 grown ram bits always dp value out has there_value none in_dp appends p only_ram only_dp only_value =
    subst (WordsHaveOnly g3 p) (sym appends.appended)
    (appends.inputs p (WordsHaveOnly-kept g0 g2 grown p ram has only_ram) (in_dp p only_dp) (none p) (grown.word_inputs p value there_value only_value))
