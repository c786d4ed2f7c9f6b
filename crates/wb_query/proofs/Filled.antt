-- Inputs that are filled in, place by place.
use Rattle.std.proofs.Common.{◌≡◌, ◌≢◌, ◌==◌, ℕ, zero, suc, ◌+◌, ◌<◌, ◌≤◌, Bool, true, false, ◌&&◌, List, [], ◌∷◌, length, Some, None, slice_get, slice_index, get_or, refl, sym, ◌∙◌, ap, subst, inl, inr, arith}
use Rattle.std.proofs.lemmas.Bool.{cases_eq, eqb-true}
use Rattle.std.proofs.lemmas.Nat.Bits.{bit_at-zero}
use Rattle.std.proofs.lemmas.Option.{slice_get_within}
use Rattle.std.specs.Int.{bit_at}
use Rattle.std.specs.List.{list_all}
use Rattle.wb_gate.specs.Circuit.{Circuit}
use Rattle.wb_term.specs.declared.nodes.BitId.{BitId}
use Rattle.wb_term.specs.Inputs.{Assignment}
use Rattle.wb_term.specs.Terms.{Terms, IsGraph}
use Rattle.wb_blast.specs.declared.places.Place.{Place}
use Rattle.wb_blast.specs.declared.places.Place.TheVariants.{Byte, Cell}
use Rattle.wb_blast.specs.Places.{place_value, GivesInputs, IsPlaceUnder, ArePlaces}
use Rattle.wb_query.specs.Filling.{IsInRange, ArePlacesInRange, Filled}
use Rattle.wb_query.specs.Oracles.{assigned}

-- the places of a formula are in their ranges
pub are_in_range : (g : Terms) (bits : List BitId) (places : List Place) → IsGraph g → ArePlaces g bits places → ArePlacesInRange places
are_in_range g bits places graph are = record { once = are.once; range = λ k place e. by_place g bits place graph (are.under k place e) } where
  by_place : (g : Terms) (bits : List BitId) (place : Place) → IsGraph g → IsPlaceUnder g bits place → IsInRange place
  by_place g bits (Byte place b) graph under = (graph.placed under.1 _ under.2, under.0)
  by_place g bits (Cell place b) graph under = (graph.placed under.1 _ under.2, under.0)

-- where all is zero, each place is false
both : (a b : Bool) → (a && b) ≡ true → (a ≡ true) × (b ≡ true)
both true b h = (refl, h)
both false b h = absurd (cc)

zero_at : (xs : List ℕ) (k : ℕ) → list_all (λ n. n == 0) xs ≡ true → slice_index xs k ≡ 0
zero_at [] k all = refl
zero_at (x ∷ xs) zero all = eqb-true x 0 (both _ _ all).0
zero_at (x ∷ xs) (suc k) all = zero_at xs k (both _ _ all).1

pub filled_none : (places : List Place) (values : List Bool) (bytes cells : List ℕ) → length bytes ≡ 16 → length cells ≡ 256 → list_all (λ n. n == 0) bytes ≡ true →
    list_all (λ n. n == 0) cells ≡ true → Filled places values (record { bytes = bytes; cells = cells }) 0
filled_none places values bytes cells bytes_len cells_len no_bytes no_cells = record {
  bytes_len = bytes_len;
  cells_len = cells_len;
  done = λ k place h e. absurd (omega (arith, h));
  open_yet = λ k place h e. clear place;
} where
  clear : (place : Place) → place_value (record { bytes = bytes; cells = cells }) place ≡ false
  clear (Byte place b) = ap (λ n. bit_at n b == 1) (zero_at bytes place no_bytes) ∙ ap (λ n. n == 1) (bit_at-zero b)
  clear (Cell place b) = ap (λ n. bit_at n b == 1) (zero_at cells place no_cells) ∙ ap (λ n. n == 1) (bit_at-zero b)

-- the place of a number below the end
pub place_there : (places : List Place) (k : ℕ) (d : Place) → k < length places → slice_get places k ≡ Some (get_or places k d)
place_there [] k d h = absurd (omega (arith, h))
place_there (p ∷ places) zero d h = refl
place_there (p ∷ places) (suc k) d h = place_there places k d (omega (arith, h))

pub filled_more : (places : List Place) (values : List Bool) (old new : Assignment) (at : ℕ) (place : Place) (value : Bool) → ArePlacesInRange places → Filled places values old at →
    slice_get places at ≡ Some place → assigned values at ≡ value → length new.bytes ≡ 16 → length new.cells ≡ 256 → place_value new place ≡ value →
    ((other : Place) → other ≢ place → place_value new other ≡ place_value old other) → Filled places values new (at + 1)
filled_more places values old new at place value are is here same bytes_len cells_len set others =
    let apart : (k : ℕ) (q : Place) → k ≢ at → slice_get places k ≡ Some q → q ≢ place = λ k q ne e same_place. ne (are.once k at place (e ∙ ap Some same_place) here) in
    record {
      bytes_len = bytes_len;
      cells_len = cells_len;
      done = λ k q h e. elim (cases_eq k at) [
        | inl eq ↦
            (let there : slice_get places at ≡ Some q = subst (λ i. slice_get places i ≡ Some q) eq e in
            let one : place ≡ q = (let first = here in cc) in
            subst (λ (r : Place). place_value new r ≡ assigned values k) one (set ∙ sym same ∙ ap (assigned values) (sym eq)))
        | inr ne ↦ others q (apart k q ne e) ∙ is.done k q (omega (arith, h, ne)) e
      ];
      open_yet = λ k q h e. let ne : k ≢ at = omega (arith, h) in others q (apart k q ne e) ∙ is.open_yet k q (omega (arith, h)) e;
    }

pub filled_all : (places : List Place) (values : List Bool) (inputs : Assignment) (at : ℕ) → length places ≤ at → Filled places values inputs at → GivesInputs (assigned values) places inputs
filled_all places values inputs at end is = record {
  given = λ x place e. let within = slice_get_within places x place e in sym (is.done x place (omega (arith, within, end)) e);
}
