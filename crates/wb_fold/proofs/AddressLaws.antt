-- The bits of an address, one after another.
use Rattle.std.proofs.Common.{◌≡◌, ℕ, ◌+◌, ◌-◌, ◌*◌, ◌/◌, ◌%◌, ◌^◌, ◌<◌, zero, suc, Bool, eqb, List, [], ◌∷◌, ◌++◌, length, refl, sym, ap, ◌∙◌, arith, length-append}
use Rattle.std.proofs.lemmas.Nat.{mod-pow-add, shr-shr, pow-add}
use Rattle.std.proofs.Math.Nat.{mul_assoc}
use Rattle.wb_term.specs.declared.nodes.WordId.{WordId}
use Rattle.wb_term.specs.declared.nodes.Node.{Node}
use Rattle.wb_term.specs.Nodes.{Each}
use Rattle.wb_term.specs.Inputs.{Assignment, IsAssignment}
use Rattle.wb_term.specs.Numbers.{bit}
use Rattle.wb_term.specs.Terms.{Terms, HasWord}
use Rattle.wb_term.specs.Values.{IsBit, word_value, bit_value}
use Rattle.wb_term.specs.Under.{HasOnly}
use Rattle.wb_term.specs.Growth.{Grown, AddsAtMost}
use Rattle.wb_fold.specs.declared.address.AddressBit.{AddressBit}
use Rattle.wb_fold.specs.Ram.{IsAddressBit, AreAddressBits, AddressHasOnly, address}
use Rattle.wb_fold.proofs.Growth.{◌▸◌, unchanged}
use Rattle.wb_fold.proofs.RamLaws.{AreAddressBits-kept, address-kept, AddressHasOnly-kept}

AreAddressBits-push : (g : Terms) (bs : List AddressBit) (b : AddressBit) → AreAddressBits g bs → IsAddressBit g b → AreAddressBits g (bs ++ b ∷ [])
AreAddressBits-push g [] b are is = (is, tt)
AreAddressBits-push g (x ∷ xs) b are is = (are.0, AreAddressBits-push g xs b are.1 is)

AddressHasOnly-push : (g : Terms) (p : Node → Bool) (bs : List AddressBit) (b : AddressBit) → AddressHasOnly g p bs → HasOnly g p b.set.number → HasOnly g p b.clear.number → AddressHasOnly g p (bs ++ b ∷ [])
AddressHasOnly-push g p [] b only set clear = (set, clear, tt)
AddressHasOnly-push g p (x ∷ xs) b only set clear = (only.0, only.1, AddressHasOnly-push g p xs b only.2 set clear)

address-push : (g : Terms) (i : Assignment) (bs : List AddressBit) (b : AddressBit) → address i g (bs ++ b ∷ []) ≡ address i g bs * 2 + bit (bit_value i g b.set)
address-push g i [] b = omega arith
address-push g i (x ∷ xs) b =
    with_front (bit (bit_value i g x.set)) (2 ^ length (xs ++ b ∷ [])) (2 ^ length xs) (address i g (xs ++ b ∷ [])) (address i g xs) (bit (bit_value i g b.set))
    (ap (λ (n : ℕ). 2 ^ n) (length-append xs (b ∷ [])) ∙ pow-add 2 (length xs) 1) (address-push g i xs b) where
      with_front : (c long short more rest last : ℕ) → long ≡ short * 2 → more ≡ rest * 2 + last → c * long + more ≡ (c * short + rest) * 2 + last
      with_front c long short more rest last e f = rw (e, f) (omega (arith, mul_assoc c short 2))

bit_of : (n : ℕ) → bit (eqb (n % 2) 1) ≡ n % 2
bit_of n = by (n % 2) (omega arith) where
  by : (m : ℕ) → m < 2 → bit (eqb m 1) ≡ m
  by zero h = refl
  by (suc zero) h = refl
  by (suc (suc m)) h = absurd (omega arith)

-- what holds of the first bits, the highest first
pub record AreFirst (old g : Terms) (dp : WordId) (bits : List AddressBit) (count : ℕ) : Type 0 where
  pub len : length bits ≡ count
  pub are : AreAddressBits g bits
  pub value : (i : Assignment) → IsAssignment i → address i g bits ≡ word_value i old dp / 2 ^ (8 - count) % 2 ^ count
  pub inputs : (p : Node → Bool) → HasOnly old p dp.number → AddressHasOnly g p bits
  pub grown : Grown old g
  pub adds : AddsAtMost old g (2 * count) 0

pub AreFirst-none : (g : Terms) (dp : WordId) → AreFirst g g dp [] 0
AreFirst-none g dp = record {
  len = refl;
  are = tt;
  value = λ i is. omega arith;
  inputs = λ p only. tt;
  grown = unchanged g;
  adds = record { longer_by = omega arith; heavier_by = omega arith };
}

next_bits : (n count : ℕ) → count < 8 → n / 2 ^ (8 - (count + 1)) % 2 ^ (count + 1) ≡ (n / 2 ^ (8 - count) % 2 ^ count) * 2 + n / 2 ^ (7 - count) % 2
next_bits n count h =
    let same : 8 - (count + 1) ≡ 7 - count = omega arith in
    let up : (7 - count) + 1 ≡ 8 - count = omega arith in
    let split = mod-pow-add (n / 2 ^ (7 - count)) count 1 in
    let halves = shr-shr n (7 - count) 1 in
    let joined : n / 2 ^ (7 - count) / 2 ^ 1 ≡ n / 2 ^ (8 - count) = halves ∙ ap (λ (k : ℕ). n / 2 ^ k) up in
    ap (λ (k : ℕ). n / 2 ^ k % 2 ^ (count + 1)) same ∙ split ∙ ap (λ (m : ℕ). m % 2 ^ count * 2 + n / 2 ^ (7 - count) % 2) joined

pub AreFirst-more : (old g h : Terms) (dp : WordId) (bits : List AddressBit) (count : ℕ) (b : AddressBit) → AreFirst old g dp bits count → count < 8 →
    HasWord old dp → Grown g h → AddsAtMost g h 2 0 → IsAddressBit h b →
    IsBit h b.set (λ i. eqb (word_value i g dp / 2 ^ (7 - count) % 2) 1) →
    ((p : Node → Bool) → HasOnly g p dp.number → Each (HasOnly h p) (b.set.number ∷ b.clear.number ∷ [])) →
    AreFirst old h dp (bits ++ b ∷ []) (count + 1)
AreFirst-more old g h dp bits count b first within there grown adds is_bit is_set only = record {
  len = omega (arith, length-append bits (b ∷ []), first.len);
  are = AreAddressBits-push h bits b (AreAddressBits-kept g h grown bits first.are) is_bit;
  value = λ i is.
      let n = word_value i old dp in
      let same : word_value i g dp ≡ n = first.grown.word_values i dp there in
      let set : bit (bit_value i h b.set) ≡ n / 2 ^ (7 - count) % 2 =
      ap bit (is_set.value i is ∙ ap (λ (m : ℕ). eqb (m / 2 ^ (7 - count) % 2) 1) same) ∙ bit_of (n / 2 ^ (7 - count)) in
      let front : address i h bits ≡ n / 2 ^ (8 - count) % 2 ^ count = address-kept g h grown i bits first.are ∙ first.value i is in
      address-push h i bits b ∙ ap (λ (m : ℕ). m * 2 + bit (bit_value i h b.set)) front
      ∙ ap (λ (m : ℕ). n / 2 ^ (8 - count) % 2 ^ count * 2 + m) set ∙ sym (next_bits n count within);
  inputs = λ p dp_only.
      let both = only p (first.grown.word_inputs p dp there dp_only) in
      AddressHasOnly-push h p bits b (AddressHasOnly-kept g h grown p bits first.are (first.inputs p dp_only)) both.0 both.1.0;
  grown = first.grown ▸ grown;
  adds = record {
    longer_by = omega (arith, first.adds.longer_by, adds.longer_by);
    heavier_by = omega (arith, first.adds.heavier_by, adds.heavier_by);
  };
}
