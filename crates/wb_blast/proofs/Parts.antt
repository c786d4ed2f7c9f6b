-- Rows of nodes that need no gate.
use Rattle.std.proofs.Common.{◌≡◌, ◌==◌, ℕ, ◌+◌, ◌-◌, ◌/◌, ◌%◌, ◌^◌, ◌<◌, ◌≤◌, Bool, true, false, not, List, length, Some, slice_get, slice_index, refl, sym, ◌∙◌, ap, arith, zero, suc}
use Rattle.std.proofs.lemmas.Option.{slice_get_within}
use Rattle.std.specs.Int.{bit_at}
use Rattle.wb_gate.specs.Circuit.{Circuit, Assignment, variables}
use Rattle.wb_term.specs.Inputs.{Assignment as Inputs}
use Rattle.wb_term.specs.Numbers.{bit}
use Rattle.wb_equal.specs.declared.entries.Entry.{Entry}
use Rattle.wb_blast.specs.declared.places.Place.{Place}
use Rattle.wb_blast.specs.declared.places.Place.TheVariants.{Byte, Cell}
use Rattle.wb_equal.specs.Entries.{entry_value, EntryBelow}
use Rattle.wb_blast.specs.Meeting.{places_down, StandsAt}
use Rattle.wb_blast.specs.Rows.{IsWordOf, IsBitOf}
use Rattle.wb_blast.specs.Words.{number, entry_at, AreBelow}
use Rattle.wb_blast.proofs.Bits.{number_bit}

bit_is : (b : Bool) → (bit b == 1) ≡ b
bit_is true = refl
bit_is false = refl

-- a known word, and a word moved
pub known_word : (c : Circuit) (places : List Place) (w : List Entry) (n : ℕ) → ((k : ℕ) → AreBelow k w) → ((v : Assignment) → number v w ≡ n) → IsWordOf c places w (λ i. n)
known_word c places w n there value = record { there = there (variables c); value = λ i v a gives o. value v }

pub moved_word : (c : Circuit) (places : List Place) (x w : List Entry) (meaning : Inputs → ℕ) (move : ℕ → ℕ) → IsWordOf c places x meaning → ((k : ℕ) → AreBelow k x → AreBelow k w) →
    ((v : Assignment) → number v w ≡ move (number v x)) → IsWordOf c places w (λ i. move (meaning i))
moved_word c places x w meaning move is there value = record {
  there = there (variables c) is.there;
  value = λ i v a gives o. value v ∙ ap move (is.value i v a gives o);
}

pub known_bit : (c : Circuit) (places : List Place) (e : Entry) (b : Bool) → ((k : ℕ) → EntryBelow k e) → ((v : Assignment) → entry_value v e ≡ b) → IsBitOf c places e (λ i. b)
known_bit c places e b there value = record { there = there (variables c); value = λ i v a gives o. value v }

pub negated_bit : (c : Circuit) (places : List Place) (x e : Entry) (meaning : Inputs → Bool) → IsBitOf c places x meaning → ((k : ℕ) → EntryBelow k x → EntryBelow k e) →
    ((v : Assignment) → entry_value v e ≡ not (entry_value v x)) → IsBitOf c places e (λ i. not (meaning i))
negated_bit c places x e meaning is there value = record {
  there = there (variables c) is.there;
  value = λ i v a gives o. value v ∙ ap not (is.value i v a gives o);
}

pub picked_bit : (c : Circuit) (places : List Place) (x : List Entry) (m : ℕ) (meaning : Inputs → ℕ) → m < length x → IsWordOf c places x meaning →
    IsBitOf c places (entry_at x m) (λ i. meaning i / 2 ^ m % 2 == 1)
picked_bit c places x m meaning within is = record {
  there = is.there m;
  value = λ i v a gives o.
      sym (ap (λ n. n / 2 ^ m % 2 == 1) (sym (is.value i v a gives o)) ∙ ap (λ n. n == 1) (number_bit v x m within) ∙ bit_is (entry_value v (entry_at x m)));
}

-- the words of the inputs
down_get : (place : ℕ → Place) (n m b : ℕ) → b + m + 1 ≡ n → slice_get (places_down place n) m ≡ Some (place b)
down_get place zero m b e = absurd (omega (arith, e))
down_get place (suc n) zero b e = ap (λ x. Some (place x)) (omega (arith, e))
down_get place (suc n) (suc m) b e = down_get place n m b (omega (arith, e))

down_length : (place : ℕ → Place) (n : ℕ) → length (places_down place n) ≡ n
down_length place zero = refl
down_length place (suc n) = let rest = down_length place n in omega (arith, rest)

stands_get : (places : List Place) (first n k : ℕ) (place : ℕ → Place) → StandsAt places first (places_down place n) → k < n → slice_get places (first + (n - 1 - k)) ≡ Some (place k)
stands_get places first n k place stands h =
    let all = down_length place n in
    stands (n - 1 - k) (omega (arith, h, all)) ∙ down_get place n (n - 1 - k) k (omega (arith, h))

pub stands_within : (places : List Place) (first n : ℕ) (place : ℕ → Place) → 0 < n → StandsAt places first (places_down place n) → first + n ≤ length places
stands_within places first n place some stands =
    let last = slice_get_within places (first + (n - 1 - 0)) (place 0) (stands_get places first n 0 place stands some) in
    omega (arith, last, some)

pub byte_word : (c : Circuit) (places : List Place) (first place : ℕ) (w : List Entry) → c.inputs ≡ length places → StandsAt places first (places_down (Byte place) 8) →
    ((v : Assignment) (n : ℕ) → n < 2 ^ 8 → ((k : ℕ) → k < 8 → v (first + (8 - 1 - k)) ≡ (bit_at n k == 1)) → number v w ≡ n) →
    ((n : ℕ) → first + 8 ≤ n → AreBelow n w) → IsWordOf c places w (λ i. slice_index i.bytes place)
byte_word c places first place w inputs stands value there = record {
  there = there (variables c) (let within = stands_within places first 8 (Byte place) (omega arith) stands in omega (arith, within, inputs));
  value = λ i v a gives o. value v (slice_index i.bytes place) (let few = a.bytes place in omega (arith, few))
      (λ k h. gives.given (first + (8 - 1 - k)) (Byte place k) (stands_get places first 8 k (Byte place) stands h));
}

pub cell_word : (c : Circuit) (places : List Place) (first place : ℕ) (w : List Entry) → c.inputs ≡ length places → StandsAt places first (places_down (Cell place) 16) →
    ((v : Assignment) (n : ℕ) → n < 2 ^ 16 → ((k : ℕ) → k < 16 → v (first + (16 - 1 - k)) ≡ (bit_at n k == 1)) → number v w ≡ n) →
    ((n : ℕ) → first + 16 ≤ n → AreBelow n w) → IsWordOf c places w (λ i. slice_index i.cells place)
cell_word c places first place w inputs stands value there = record {
  there = there (variables c) (let within = stands_within places first 16 (Cell place) (omega arith) stands in omega (arith, within, inputs));
  value = λ i v a gives o. value v (slice_index i.cells place) (let few = a.cells place in omega (arith, few))
      (λ k h. gives.given (first + (16 - 1 - k)) (Cell place k) (stands_get places first 16 k (Cell place) stands h));
}
