-- The number that variables stand for is that of the bits that they are.
use Rattle.std.proofs.Common.{◌≡◌, ◌==◌, ℕ, suc, ◌+◌, ◌*◌, ◌/◌, ◌%◌, ◌^◌, ◌<◌, ◌≢◌, ◌⊎◌, Bool, true, false, List, [], ◌∷◌, Option, Some, None, IfSome, length, slice_get, slice_index, slice_set, refl, sym, ap, ◌∙◌, subst, inl, inr, arith, lit<, below_more, get_or-set_other, get_or-set_same}
use Rattle.std.proofs.Math.ListN.{length-set}
use Rattle.std.proofs.lemmas.Bool.{cases_eq}
use Rattle.std.proofs.Math.Nat.{pow-suc}
use Rattle.std.proofs.lemmas.Nat.Bits.{bit_at_lowest, bit_at-suc}
use Rattle.std.proofs.lemmas.Option.{slice_get_within}
use Rattle.std.specs.Int.{bit_at}
use Rattle.wb_diagram.specs.declared.nodes.Diagram.{Diagram}
use Rattle.wb_diagram.specs.Forest.{Forest}
use Rattle.wb_diagram.specs.Values.{IsFunction}
use Rattle.wb_vector.specs.Vectors.{bit, number_of, IsNumber}
use Rattle.wb_vector.proofs.Bits.{bit_of_bit}
use Rattle.wb_term.specs.declared.nodes.Node.{Node}
use Rattle.wb_term.specs.declared.nodes.Node.TheVariants.{Word, Bit}
use Rattle.wb_term.specs.Inputs.{Assignment, IsAssignment}
use Rattle.wb_term.specs.Terms.{Terms, IsGraph, holds_bit}
use Rattle.wb_term.specs.Values.{value}
use Rattle.wb_term.proofs.Fits.{value-lt}
use Rattle.wb_term.proofs.Placed.{children_below}
use Rattle.wb_term.proofs.Values.{value-at}
use Rattle.wb_graph.specs.Worlds.{IsWorld, byte_by_byte, side_by_side, own_variable}
use Rattle.wb_graph.specs.Functions.{Board, IsWordFunction, IsBitFunction, AreRight}

put_together : (b n : ℕ) → b ≡ n % 2 → b + 2 * (n / 2) ≡ n
put_together b n e = omega (arith, e)

spelled : (v : ℕ → Bool) (names : List ℕ) (n : ℕ) → n < 2 ^ length names → ((k : ℕ) → k < length names → v (slice_index names k) ≡ (bit_at n k == 1)) → number_of v names ≡ n
spelled v [] n small each = let few : n < 1 = small in omega (arith, few)
spelled v (x ∷ names) n small each =
    let power : 2 ^ length (x ∷ names) ≡ 2 ^ length names * 2 = pow-suc 2 (length names) in
    let here : bit (v x) ≡ n % 2 = ap bit (each 0 (omega arith) ∙ ap (λ m. m == 1) (bit_at_lowest n)) ∙ bit_of_bit (n % 2) (omega arith) in
    let rest : number_of v names ≡ n / 2 = spelled v names (n / 2) (omega (arith, small, power)) (λ k h. each (suc k) (omega (arith, h)) ∙ ap (λ m. m == 1) (bit_at-suc n k)) in
    ap (λ m. bit (v x) + 2 * m) rest ∙ put_together (bit (v x)) n here

-- the first names are as they should be
pub record Naming (names : List ℕ) (size at : ℕ) (Is : ℕ → ℕ → Type 0) : Type 0 where
  pub count : length names ≡ size
  pub each : (k : ℕ) → k < at → Is k (slice_index names k)
  pub small : (k : ℕ) → slice_index names k < 4294967295

pub naming_more : (names : List ℕ) (size at place x : ℕ) (Is : ℕ → ℕ → Type 0) → Naming names size at Is → at < size → place ≡ at → Is at x → x < 4294967295 →
    Naming (slice_set names place x) size (at + 1) Is
naming_more names size at place x Is so_far within here is small =
    let count_is = so_far.count in
    subst (λ p. Naming (slice_set names p x) size (at + 1) Is) (sym here) (record {
      count = length-set names at x ∙ count_is;
      each = below_more _ at
          (λ k h. let ne : k ≢ at = omega (arith, h) in subst (Is k) (sym (get_or-set_other names at k x 0 ne)) (so_far.each k h))
          (subst (Is at) (sym (get_or-set_same names at x 0 (omega (arith, within, count_is)))) is);
      small = λ k. elim (cases_eq k at) [
        | inl same ↦ subst (λ i. slice_index (slice_set names at x) i < 4294967295) (sym same) (subst (λ n. n < 4294967295) (sym (get_or-set_same names at x 0 (omega (arith, within, count_is)))) small)
        | inr ne ↦ subst (λ n. n < 4294967295) (sym (get_or-set_other names at k x 0 ne)) (so_far.small k)
      ];
    })

-- a word of variables that are the bits of a number
named : (g : Terms) (f : Forest) (names : List ℕ) (m : Assignment → ℕ) (ds : List Diagram) → IsNumber f ds (λ v. number_of v names) →
    ((inputs : Assignment) → IsAssignment inputs → m inputs < 2 ^ length names) →
    ((inputs : Assignment) (w : ℕ → Bool) → IsWorld inputs g w → (k : ℕ) → k < length names → w (slice_index names k) ≡ (bit_at (m inputs) k == 1)) → IsWordFunction g f m ds
named g f names m ds is small each = record {
  there = is.there;
  value = λ inputs ok w world. is.value w ∙ spelled w names (m inputs) (small inputs ok) (each inputs w world);
}

-- the variables of a node's bits stand for its value
pub own_is : (f : Forest) (number : ℕ) (names : List ℕ) (o : Option (List Diagram)) → Naming names 16 16 (λ k x. x ≡ own_variable number k) →
    IfSome o (λ ds. IsNumber f ds (λ v. number_of v names)) →
    IfSome o (λ ds. (g : Terms) → IsGraph g → number < length g.nodes → IsWordFunction g f (λ inputs. value inputs g number) ds)
own_is f number names None naming is = is
own_is f number names (Some ds) naming is = λ g graph within.
    let count = naming.count in
    named g f names (λ inputs. value inputs g number) ds is
    (λ inputs ok. subst (λ n. value inputs g number < 2 ^ n) (sym count) (value-lt g graph inputs ok number))
    (λ inputs w world k h. let low : k < 16 = omega (arith, h, count) in ap w (naming.each k low) ∙ world.own number k within low)

-- the variables of a byte's bits stand for the byte
pub byte_is : (b : Board) (f : Forest) (place : ℕ) (names : List ℕ) (o : Option (List Diagram)) → place < 16 →
    Naming names 8 8 (λ k x. (x ≡ byte_by_byte place k) ⊎ (x ≡ side_by_side place k)) →
    IfSome o (λ ds. IsNumber f ds (λ v. number_of v names)) → IfSome o (λ ds. (g : Terms) → AreRight g b → IsWordFunction g f (λ inputs. slice_index inputs.bytes place) ds)
byte_is b f place names None in_place naming is = is
byte_is b f place names (Some ds) in_place naming is = λ g right.
    let count = naming.count in
    named g f names (λ inputs. slice_index inputs.bytes place) ds is
    (λ inputs ok. subst (λ n. slice_index inputs.bytes place < 2 ^ n) (sym count) (ok.bytes place))
    (λ inputs w world k h. let low : k < 8 = omega (arith, h, count) in elim (naming.each k low) [
      | inl alone ↦ ap w alone ∙ world.byte_by_byte place k in_place low
      | inr side ↦ ap w side ∙ world.side_by_side place k in_place low
    ])

-- a bit's value is 0 or 1
bit_few : (b : Bool) → bit b < 2
bit_few true = lit< tt
bit_few false = lit< tt

bit_value_few : (g : Terms) → IsGraph g → (inputs : Assignment) (k : ℕ) (o : Option Node) → slice_get g.nodes k ≡ o → holds_bit o ≡ true → (k < length g.nodes) × (value inputs g k < 2)
bit_value_few g is inputs k None at holds = cc
bit_value_few g is inputs k (Some (Word n)) at holds = cc
bit_value_few g is inputs k (Some (Bit n)) at holds = (
  slice_get_within g.nodes k (Bit n) at,
  subst (λ v. v < 2) (sym (value-at inputs g k (Bit n) at (children_below g k (Bit n) (is.placed k (Bit n) at)))) (bit_few _),
)

-- the variable of a bit's lowest bit stands for the bit
pub own_bit_is : (f : Forest) (number variable : ℕ) (o : Option Diagram) → variable ≡ own_variable number 0 → IfSome o (λ d. IsFunction f d (λ v. v variable)) →
    IfSome o (λ d. (g : Terms) → IsGraph g → holds_bit (slice_get g.nodes number) ≡ true → IsBitFunction g f (λ inputs. value inputs g number == 1) d)
own_bit_is f number variable None same is = is
own_bit_is f number variable (Some d) same is = λ g graph holds. record {
  there = is.there;
  value = λ inputs ok w world.
      let few = bit_value_few g graph inputs number (slice_get g.nodes number) refl holds in
      let within = few.0 in
      let below = few.1 in
      let low : value inputs g number % 2 ≡ value inputs g number = omega (arith, below) in
      is.value w ∙ ap w same ∙ world.own number 0 within (lit< tt) ∙ ap (λ n. n == 1) (bit_at_lowest (value inputs g number) ∙ low);
}
