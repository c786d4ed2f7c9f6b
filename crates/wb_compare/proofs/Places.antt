-- Pairwise different places, each a bit that a fitting dialogue may choose, are no more than it may choose.
use Rattle.std.proofs.Common.{◌≡◌, ◌≢◌, ℕ, zero, suc, ◌+◌, ◌*◌, ◌<◌, ◌≤◌, true, Option, Some, List, [], ◌∷◌, ◌++◌, inl, inr, length, refl, ap, subst, ◌∙◌, arith}
use Rattle.std.specs.Prelude.{Contains, All, AllPairs, slice_get, slice_index_or}
use Rattle.std.proofs.lemmas.List.{length-append}
use Rattle.std.proofs.lemmas.Bool.{cases_lt}
use Rattle.std.proofs.lemmas.List.Elements.{Contains-append_left, Contains-append_right}
use Rattle.wb_blast.specs.declared.places.Place.{Place}
use Rattle.wb_blast.specs.declared.places.Place.TheVariants.{Byte, Cell}
use Rattle.wb_port.specs.declared.accesses.Kind.{Kind}
use Rattle.wb_port.specs.declared.accesses.Kind.TheVariants as kind
use Rattle.wb_port.specs.declared.accesses.Letter.{Letter}
use Rattle.wb_port.specs.declared.accesses.Letter.TheVariants as letter
use Rattle.wb_port.specs.declared.accesses.Power.{Power}
use Rattle.wb_port.specs.declared.accesses.Power.TheVariants as power
use Rattle.wb_port.specs.Dialogue.{AllowsEach, writes_allowed, input_bits}
use Rattle.wb_law.specs.Values.{DifferentValuesAreNoMore}
use Rattle.wb_explore.specs.Plans.{is_write}
use Rattle.wb_explore.specs.Faults.{IsChosenPlace}
use Rattle.wb_compare.proofs.Lists.{listed_head, listed_tail}

-- the places of numbers below a number
below : (ℕ → Place) → ℕ → List Place
below f zero = []
below f (suc n) = f n ∷ below f n

length_below : (f : ℕ → Place) (n : ℕ) → length (below f n) ≡ n
unfolding below
length_below f zero = refl
length_below f (suc n) = let e = length_below f n in omega arith

listed_below : (f : ℕ → Place) (n k : ℕ) → k < n → Contains (below f n) (f k)
unfolding below
listed_below f zero k less = absurd (omega arith)
listed_below f (suc n) k less = elim (cases_lt k n) [ inl l ↦ listed_tail (f n) (f k) (below f n) (listed_below f n k l) | inr m ↦ listed_head (f n) (f k) (below f n) (let e : n ≡ k = omega arith in ap f e) ]

-- the bits of the bytes that writes of these kinds give, from a place on
written : ℕ → List Kind → List Place
written at [] = []
written at (kind.Read ∷ ks) = written (at + 1) ks
written at (kind.Write ∷ ks) = below (Byte at) 8 ++ written (at + 1) ks

few_written : (at : ℕ) (shape : List Letter) (ks : List Kind) → AllowsEach shape ks → length (written at ks) ≤ 8 * writes_allowed shape
unfolding written
few_written at shape [] h = omega arith
few_written at [] (k ∷ ks) h = absurd h
few_written at (letter.R ∷ shape) (kind.Read ∷ ks) h = few_written (at + 1) shape ks h.1
few_written at (letter.R ∷ shape) (kind.Write ∷ ks) h = absurd h.0
few_written at (letter.W ∷ shape) (kind.Read ∷ ks) h = absurd h.0
few_written at (letter.W ∷ shape) (kind.Write ∷ ks) h =
    let r = few_written (at + 1) shape ks h.1 in
    let e = length-append (below (Byte at) 8) (written (at + 1) ks) in
    let n = length_below (Byte at) 8 in
    omega arith
few_written at (letter.X ∷ shape) (kind.Read ∷ ks) h = let r = few_written (at + 1) shape ks h.1 in omega arith
few_written at (letter.X ∷ shape) (kind.Write ∷ ks) h =
    let r = few_written (at + 1) shape ks h.1 in
    let e = length-append (below (Byte at) 8) (written (at + 1) ks) in
    let n = length_below (Byte at) 8 in
    omega arith

listed_written : (at : ℕ) (ks : List Kind) (j b : ℕ) → is_write (slice_get ks j) ≡ true → b < 8 → Contains (written at ks) (Byte (at + j) b)
unfolding written
listed_written at [] j b h less = absurd (none j h)
  where
    none : (j : ℕ) → is_write (slice_get [] j) ≡ true → ⊥
    none zero h = absurd (cc)
    none (suc j) h = absurd (cc)
listed_written at (kind.Read ∷ ks) zero b h less = absurd (cc)
listed_written at (kind.Read ∷ ks) (suc j) b h less =
    let e : at + 1 + j ≡ at + suc j = omega arith in
    subst (λ (n : ℕ). Contains (written (at + 1) ks) (Byte n b)) e (listed_written (at + 1) ks j b h less)
listed_written at (kind.Write ∷ ks) zero b h less =
    let e : at ≡ at + 0 = omega arith in
    Contains-append_left (below (Byte at) 8) (written (at + 1) ks) (Byte (at + 0) b) (subst (λ (n : ℕ). Contains (below (Byte at) 8) (Byte n b)) e (listed_below (Byte at) 8 b less))
listed_written at (kind.Write ∷ ks) (suc j) b h less =
    let e : at + 1 + j ≡ at + suc j = omega arith in
    Contains-append_right (below (Byte at) 8) (written (at + 1) ks) (Byte (at + suc j) b)
    (subst (λ (n : ℕ). Contains (written (at + 1) ks) (Byte n b)) e (listed_written (at + 1) ks j b h less))

-- the bits of the first words of the start
started : ℕ → List Place
started zero = []
started (suc n) = below (Cell n) 16 ++ started n

length_started : (n : ℕ) → length (started n) ≡ 16 * n
unfolding started
length_started zero = refl
length_started (suc n) =
    let r = length_started n in
    let e = length-append (below (Cell n) 16) (started n) in
    let m = length_below (Cell n) 16 in
    omega arith

listed_started : (n k b : ℕ) → k < n → b < 16 → Contains (started n) (Cell k b)
unfolding started
listed_started zero k b less low = absurd (omega arith)
listed_started (suc n) k b less low = elim (cases_lt k n) [
  | inl l ↦ Contains-append_right (below (Cell n) 16) (started n) (Cell k b) (listed_started n k b l low)
  | inr m ↦ Contains-append_left (below (Cell n) 16) (started n) (Cell k b) (let e : n ≡ k = omega arith in subst (λ (j : ℕ). Contains (below (Cell n) 16) (Cell j b)) e (listed_below (Cell n) 16 b low))
]

-- all bits that dialogues of these kinds choose
chosen : List Kind → Power → List Place
chosen ks power.Zero = written 0 ks
chosen ks power.Any = written 0 ks ++ started 256

few_chosen : (shape : List Letter) (ks : List Kind) (p : Power) → AllowsEach shape ks → length (chosen ks p) ≤ input_bits shape p
unfolding chosen
few_chosen shape ks power.Zero h = few_written 0 shape ks h
few_chosen shape ks power.Any h =
    let r = few_written 0 shape ks h in
    let e = length-append (written 0 ks) (started 256) in
    let m = length_started 256 in
    omega arith

listed_chosen : (ks : List Kind) (p : Power) (place : Place) → IsChosenPlace ks p place → Contains (chosen ks p) place
unfolding chosen
listed_chosen ks power.Zero (Byte n b) h =
    let e : 0 + n ≡ n = omega arith in
    subst (λ (j : ℕ). Contains (written 0 ks) (Byte j b)) e (listed_written 0 ks n b h.1 h.0)
listed_chosen ks power.Any (Byte n b) h =
    let e : 0 + n ≡ n = omega arith in
    Contains-append_left (written 0 ks) (started 256) (Byte n b) (subst (λ (j : ℕ). Contains (written 0 ks) (Byte j b)) e (listed_written 0 ks n b h.1 h.0))
listed_chosen ks power.Zero (Cell n b) h = absurd (let e = h.2 in cc)
listed_chosen ks power.Any (Cell n b) h = Contains-append_right (written 0 ks) (started 256) (Cell n b) (listed_started 256 n b h.0 h.1)

pub listed_at : {X : Type 0} (xs : List X) (k : ℕ) (d : X) → k < length xs → slice_get xs k ≡ Some (slice_index_or xs k d)
listed_at [] k d less = absurd (omega arith)
listed_at (x ∷ xs) zero d less = refl
listed_at (x ∷ xs) (suc k) d less = listed_at xs k d (omega arith)

pub places_are_few : DifferentValuesAreNoMore Place → (shape : List Letter) (ks : List Kind) (p : Power) (places : List Place) → AllowsEach shape ks
    → ((j k : ℕ) (place : Place) → slice_get places j ≡ Some place → slice_get places k ≡ Some place → j ≡ k)
    → All (IsChosenPlace ks p) places → length places ≤ input_bits shape p
places_are_few no_more shape ks p places allowed once all =
    let most = no_more places (chosen ks p) apart (λ k d less. listed_chosen ks p (slice_index_or places k d) (all k d less)) in
    let few = few_chosen shape ks p allowed in
    omega arith
  where
    apart : AllPairs (λ x y. x ≢ y) places
    apart i j d less within same =
        let first = listed_at places i d (omega arith) in
        let second = listed_at places j d within in
        let e = once i j (slice_index_or places j d) (first ∙ ap (λ (x : Place). let o : Option Place = Some x in o) same) second in
        absurd (omega arith)
