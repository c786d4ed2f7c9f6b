-- Lists of words and the bits of an address, in a graph that grows.
use Rattle.std.proofs.Common.{◌≡◌, ℕ, ◌+◌, ◌-◌, ◌*◌, ◌^◌, ◌<◌, Bool, true, false, cond, List, [], ◌∷◌, length, take, drop, Result, Ok, Err, refl, sym, ap, ◌∙◌, subst, arith, lit<}
use Rattle.std.proofs.lemmas.List.{get_or-take, get_or-drop, length-take, length-drop}
use Rattle.std.specs.Prelude.{IfOk, OnOk}
use Rattle.std.proofs.Math.Nat.{pow-suc}
use Rattle.wb_term.specs.declared.nodes.WordId.{WordId}
use Rattle.wb_term.specs.declared.nodes.Node.{Node}
use Rattle.wb_term.specs.Inputs.{Assignment, IsAssignment}
use Rattle.wb_term.specs.Numbers.{bit}
use Rattle.wb_term.specs.Terms.{Terms, HasWord}
use Rattle.wb_term.specs.Values.{IsWord, word_value, bit_value}
use Rattle.wb_term.specs.Under.{HasOnly}
use Rattle.wb_term.specs.Growth.{Grown, AddsAtMost}
use Rattle.wb_make.specs.Inputs.{BringsOnly}
use Rattle.wb_fold.specs.declared.address.AddressBit.{AddressBit}
use Rattle.wb_fold.specs.Ram.{word_in, HasWords, WordsHaveOnly, AreAddressBits, AddressHasOnly, address}
use Rattle.wb_fold.proofs.Growth.{◌▸◌}

pub HasWords-take : (g : Terms) (ids : List WordId) (n : ℕ) → HasWords g ids → HasWords g (take n ids)
HasWords-take g ids n has = record {
  there = λ k h.
      let l : k < n = omega (arith, length-take n ids) in
      let m : k < length ids = omega (arith, length-take n ids) in
      subst (HasWord g) (sym (get_or-take n ids k (record { number = 0 }) l)) (has.there k m);
}

pub HasWords-drop : (g : Terms) (ids : List WordId) (n : ℕ) → HasWords g ids → HasWords g (drop n ids)
HasWords-drop g ids n has = record {
  there = λ k h.
      let m : n + k < length ids = omega (arith, length-drop n ids) in
      subst (HasWord g) (sym (get_or-drop n ids k (record { number = 0 }))) (has.there (n + k) m);
}

pub HasWords-kept : (g h : Terms) → Grown g h → (ids : List WordId) → HasWords g ids → HasWords h ids
HasWords-kept g h grown ids has = record { there = λ k l. grown.words (word_in ids k) (has.there k l) }

pub WordsHaveOnly-take : (g : Terms) (p : Node → Bool) (ids : List WordId) (n : ℕ) → WordsHaveOnly g p ids → WordsHaveOnly g p (take n ids)
WordsHaveOnly-take g p ids n has = record {
  only = λ k h.
      let l : k < n = omega (arith, length-take n ids) in
      let m : k < length ids = omega (arith, length-take n ids) in
      subst (λ (x : WordId). HasOnly g p x.number) (sym (get_or-take n ids k (record { number = 0 }) l)) (has.only k m);
}

pub WordsHaveOnly-drop : (g : Terms) (p : Node → Bool) (ids : List WordId) (n : ℕ) → WordsHaveOnly g p ids → WordsHaveOnly g p (drop n ids)
WordsHaveOnly-drop g p ids n has = record {
  only = λ k h.
      let m : n + k < length ids = omega (arith, length-drop n ids) in
      subst (λ (x : WordId). HasOnly g p x.number) (sym (get_or-drop n ids k (record { number = 0 }))) (has.only (n + k) m);
}

pub WordsHaveOnly-kept : (g h : Terms) → Grown g h → (p : Node → Bool) (ids : List WordId) → HasWords g ids → WordsHaveOnly g p ids → WordsHaveOnly h p ids
WordsHaveOnly-kept g h grown p ids has only = record { only = λ k l. grown.word_inputs p (word_in ids k) (has.there k l) (only.only k l) }

pub AreAddressBits-kept : (g h : Terms) → Grown g h → (bs : List AddressBit) → AreAddressBits g bs → AreAddressBits h bs
AreAddressBits-kept g h grown [] are = tt
AreAddressBits-kept g h grown (b ∷ bs) are = (
  record {
    set = grown.bits b.set are.0.set;
    clear = grown.bits b.clear are.0.clear;
    opposite = λ i is.
        let set = grown.bit_values i b.set are.0.set in
        let clear = grown.bit_values i b.clear are.0.clear in
        let was = are.0.opposite i is in
        cc;
  },
  AreAddressBits-kept g h grown bs are.1,
)

pub address-kept : (g h : Terms) → Grown g h → (i : Assignment) (bs : List AddressBit) → AreAddressBits g bs → address i h bs ≡ address i g bs
address-kept g h grown i [] are = refl
address-kept g h grown i (b ∷ bs) are =
    let set = grown.bit_values i b.set are.0.set in
    let rest = address-kept g h grown i bs are.1 in
    cc

with_bit : (c : Bool) (part whole n : ℕ) → whole ≡ part * 2 → n < part → bit c * part + n < whole
with_bit true part whole n e h = omega arith
with_bit false part whole n e h = omega arith

pub address-lt : (g : Terms) (i : Assignment) (bs : List AddressBit) → address i g bs < 2 ^ length bs
address-lt g i [] = lit< tt
address-lt g i (b ∷ bs) = with_bit (bit_value i g b.set) (2 ^ length bs) (2 ^ length (b ∷ bs)) (address i g bs) (pow-suc 2 (length bs)) (address-lt g i bs)

pub AddressHasOnly-kept : (g h : Terms) → Grown g h → (p : Node → Bool) (bs : List AddressBit) → AreAddressBits g bs → AddressHasOnly g p bs → AddressHasOnly h p bs
AddressHasOnly-kept g h grown p [] are only = tt
AddressHasOnly-kept g h grown p (b ∷ bs) are only = (
  grown.bit_inputs p b.set are.0.set only.0,
  grown.bit_inputs p b.clear are.0.clear only.1,
  AddressHasOnly-kept g h grown p bs are.1 only.2,
)

-- The choice between the two halves of a list is the entry at the whole address.
pub selected-chosen : (g0 g1 g2 g3 : Terms) → Grown g0 g1 → Grown g1 g2 → (words : List WordId) (top : AddressBit) (rest : List AddressBit)
    (low high id : WordId) (half : ℕ) → half ≡ 2 ^ length rest → length words ≡ 2 ^ length (top ∷ rest) →
    HasWords g0 words → AreAddressBits g0 (top ∷ rest) →
    IsWord g1 low (λ i. word_value i g0 (word_in (take half words) (address i g0 rest))) →
    IsWord g2 high (λ i. word_value i g1 (word_in (drop half words) (address i g1 rest))) →
    IsWord g3 id (λ i. cond (bit_value i g2 top.set) (word_value i g2 high) (word_value i g2 low)) →
    IsWord g3 id (λ i. word_value i g0 (word_in words (address i g0 (top ∷ rest))))
selected-chosen g0 g1 g2 g3 a b words top rest low high id half halved len has are is_low is_high is_id = record {
  there = is_id.there;
  value = λ i is. is_id.value i is ∙ by i is (bit_value i g0 top.set) refl;
} where
  by : (i : Assignment) → IsAssignment i → (c : Bool) → bit_value i g0 top.set ≡ c →
      cond (bit_value i g2 top.set) (word_value i g2 high) (word_value i g2 low) ≡ word_value i g0 (word_in words (address i g0 (top ∷ rest)))
  by i is true e =
      let at = address i g0 rest in
      let within = address-lt g0 i rest in
      let double : 2 ^ length (top ∷ rest) ≡ 2 ^ length rest * 2 = pow-suc 2 (length rest) in
      let chosen : bit_value i g2 top.set ≡ true = (a ▸ b).bit_values i top.set are.0.set ∙ e in
      let same : address i g1 rest ≡ at = address-kept g0 g1 a i rest are.1 in
      let place : address i g0 (top ∷ rest) ≡ half + at = ap (λ (v : Bool). bit v * 2 ^ length rest + at) e ∙ omega (arith, halved) in
      let there = has.there (half + at) (omega (arith, within, double, len, halved)) in
      ap (λ (v : Bool). cond v (word_value i g2 high) (word_value i g2 low)) chosen
      ∙ is_high.value i is
      ∙ ap (λ (n : ℕ). word_value i g1 (word_in (drop half words) n)) same
      ∙ ap (λ (x : WordId). word_value i g1 x) (get_or-drop half words at (record { number = 0 }))
      ∙ a.word_values i (word_in words (half + at)) there
      ∙ sym (ap (λ (n : ℕ). word_value i g0 (word_in words n)) place)
  by i is false e =
      let at = address i g0 rest in
      let within = address-lt g0 i rest in
      let chosen : bit_value i g2 top.set ≡ false = (a ▸ b).bit_values i top.set are.0.set ∙ e in
      let place : address i g0 (top ∷ rest) ≡ at = ap (λ (v : Bool). bit v * 2 ^ length rest + at) e ∙ omega arith in
      ap (λ (v : Bool). cond v (word_value i g2 high) (word_value i g2 low)) chosen
      ∙ b.word_values i low is_low.there
      ∙ is_low.value i is
      ∙ ap (λ (x : WordId). word_value i g0 x) (get_or-take half words at (record { number = 0 }) (omega (arith, within, halved)))
      ∙ sym (ap (λ (n : ℕ). word_value i g0 (word_in words n)) place)

-- a fact of the value that a call gives, from another
pub IfOk-map : {A E : Type 0} (P Q : A → Type 0) → ((a : A) → P a → Q a) → (r : Result A E) → IfOk r P → IfOk r Q
IfOk-map P Q f (Ok a) h = f a h
IfOk-map P Q f (Err e) h = h

-- the same, where the halves and the address are known by equations
pub selected-halves : (g0 g1 g2 g3 : Terms) → Grown g0 g1 → Grown g1 g2 → (words front back : List WordId) (bits : List AddressBit) (top : AddressBit)
    (rest : List AddressBit) (low high id : WordId) (half : ℕ) → front ≡ take half words → back ≡ drop half words → bits ≡ top ∷ rest →
    half ≡ 2 ^ length rest → length words ≡ 2 ^ length bits → HasWords g0 words → AreAddressBits g0 bits →
    IsWord g1 low (λ i. word_value i g0 (word_in front (address i g0 rest))) →
    IsWord g2 high (λ i. word_value i g1 (word_in back (address i g1 rest))) →
    IsWord g3 id (λ i. cond (bit_value i g2 top.set) (word_value i g2 high) (word_value i g2 low)) →
    IsWord g3 id (λ i. word_value i g0 (word_in words (address i g0 bits)))
selected-halves g0 g1 g2 g3 a b words front back bits top rest low high id half is_front is_back is_bits halved len has are is_low is_high is_id =
    subst (λ (bs : List AddressBit). IsWord g3 id (λ i. word_value i g0 (word_in words (address i g0 bs)))) (sym is_bits)
    (selected-chosen g0 g1 g2 g3 a b words top rest low high id half halved
    (len ∙ ap (λ (bs : List AddressBit). 2 ^ length bs) is_bits) has (subst (AreAddressBits g0) is_bits are)
    (subst (λ (ws : List WordId). IsWord g1 low (λ i. word_value i g0 (word_in ws (address i g0 rest)))) is_front is_low)
    (subst (λ (ws : List WordId). IsWord g2 high (λ i. word_value i g1 (word_in ws (address i g1 rest)))) is_back is_high)
    is_id)

pub selected-inputs : (g0 g1 g2 g3 : Terms) → Grown g0 g1 → Grown g1 g2 → (words front back : List WordId) (bits : List AddressBit) (top : AddressBit)
    (rest : List AddressBit) (low high id : WordId) (half : ℕ) → front ≡ take half words → back ≡ drop half words → bits ≡ top ∷ rest →
    HasWords g0 words → AreAddressBits g0 bits → HasWord g1 low →
    ((p : Node → Bool) → WordsHaveOnly g0 p front → AddressHasOnly g0 p rest → HasOnly g1 p low.number) →
    ((p : Node → Bool) → WordsHaveOnly g1 p back → AddressHasOnly g1 p rest → HasOnly g2 p high.number) →
    BringsOnly g2 g3 (top.set.number ∷ high.number ∷ low.number ∷ []) id.number →
    (p : Node → Bool) → WordsHaveOnly g0 p words → AddressHasOnly g0 p bits → HasOnly g3 p id.number
selected-inputs g0 g1 g2 g3 a b words front back bits top rest low high id half is_front is_back is_bits has are low_there in_low in_high in_id p only_words only_bits =
    let bits_are = subst (AreAddressBits g0) is_bits are in
    let bits_only = subst (AddressHasOnly g0 p) is_bits only_bits in
    let front_only = subst (WordsHaveOnly g0 p) (sym is_front) (WordsHaveOnly-take g0 p words half only_words) in
    let back_only = subst (WordsHaveOnly g1 p) (sym is_back) (WordsHaveOnly-kept g0 g1 a p (drop half words) (HasWords-drop g0 words half has) (WordsHaveOnly-drop g0 p words half only_words)) in
    in_id p (
      (a ▸ b).bit_inputs p top.set bits_are.0.set bits_only.0,
      (
        in_high p back_only (AddressHasOnly-kept g0 g1 a p rest bits_are.1 bits_only.2),
        (b.word_inputs p low low_there (in_low p front_only bits_only.2), tt),
      ),
    )

pub selected-adds : (g0 g1 g2 g3 : Terms) (part whole : ℕ) → whole ≡ part * 2 → 0 < part → AddsAtMost g0 g1 (part - 1) (16 * (part - 1)) →
    AddsAtMost g1 g2 (part - 1) (16 * (part - 1)) → AddsAtMost g2 g3 1 16 → AddsAtMost g0 g3 (whole - 1) (16 * (whole - 1))
selected-adds g0 g1 g2 g3 part whole e positive a b c = record {
  longer_by = omega (arith, a.longer_by, b.longer_by, c.longer_by);
  heavier_by = omega (arith, a.heavier_by, b.heavier_by, c.heavier_by);
}

-- the bits of an address and one less
pub power-opened : (bits : List AddressBit) (top : AddressBit) (rest : List AddressBit) → bits ≡ top ∷ rest → 2 ^ length bits ≡ 2 ^ length rest * 2
power-opened bits top rest e = ap (λ (bs : List AddressBit). 2 ^ length bs) e ∙ pow-suc 2 (length rest)

pub OnOk-map : {A E : Type 0} (P Q : Type 0) → (P → Q) → (r : Result A E) → OnOk r P → OnOk r Q
OnOk-map P Q f (Ok a) h = f h
OnOk-map P Q f (Err e) h = h
