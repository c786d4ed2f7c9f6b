-- The places of a node's bits.
use Rattle.std.proofs.Common.{◌≡◌, ◌≢◌, ◌==◌, ℕ, zero, suc, ◌+◌, ◌*◌, ◌<◌, ◌≤◌, true, false, ◌||◌, List, [], ◌∷◌, length, Some, slice_get, map, refl, sym, ◌∙◌, ap, subst, inl, inr, arith, ◌++◌, append_assoc}
use Rattle.std.proofs.lemmas.Bool.{cases_eq, ne_eqb}
use Rattle.std.proofs.lemmas.List.{length-map}
use Rattle.std.proofs.lemmas.Map.Steps.{length-le_from_distinct_below}
use Rattle.std.specs.List.{IsDistinct, AllByRecursion, list_any}
use Rattle.wb_term.specs.declared.nodes.BitId.{BitId}
use Rattle.wb_term.specs.declared.nodes.Node.{Node}
use Rattle.wb_term.specs.declared.nodes.Node.TheVariants.{Word, Bit}
use Rattle.wb_term.specs.declared.nodes.WordNode.TheVariants as word
use Rattle.wb_term.specs.Terms.{Terms, IsPlaced}
use Rattle.wb_blast.specs.declared.places.Place.{Place}
use Rattle.wb_blast.specs.declared.places.Place.TheVariants.{Byte, Cell}
use Rattle.wb_blast.specs.Meeting.{node_places, places_down, EachOnce}
use Rattle.wb_blast.specs.Number.{IsUnderAny}
use Rattle.wb_blast.specs.Places.{IsPlaceUnder}
use Rattle.wb_blast.proofs.Appended.{get_none}

-- one place more is pushed
pub pushed_down : (place : ℕ → Place) (xs : List Place) (m a b : ℕ) → a ≡ m → b ≡ suc m → (xs ++ place m ∷ []) ++ places_down place a ≡ xs ++ places_down place b
pushed_down place xs m a b e f =
    ap (λ n. (xs ++ place m ∷ []) ++ places_down place n) e ∙ append_assoc xs (place m ∷ []) (places_down place m)
    ∙ ap (λ n. xs ++ places_down place n) (sym f)

abbrev owner : Place → Node
owner (Byte place b) = Word (word.Byte place)
owner (Cell place b) = Word (word.Cell place)

down_at : (place : ℕ → Place) (n j : ℕ) (q : Place) → slice_get (places_down place n) j ≡ Some q → (b : ℕ) × (b + j + 1 ≡ n) × (place b ≡ q)
down_at place zero j q e = absurd (get_none j q e)
down_at place (suc n) zero q e = (n, omega arith, (cc))
down_at place (suc n) (suc j) q e = let is = down_at place n j q e in (is.0, (let s = is.1 in omega (arith, s)), is.2)

down_once : (place : ℕ → Place) (n : ℕ) → ((a b : ℕ) → place a ≡ place b → a ≡ b) → EachOnce (places_down place n)
down_once place n same j k q e f =
    let one = down_at place n j q e in
    let other = down_at place n k q f in
    let eq : one.0 ≡ other.0 = same one.0 other.0 (one.2 ∙ sym other.2) in
    let s = one.1 in let t = other.1 in omega (arith, eq, s, t)

byte_of : (place a b : ℕ) → Byte place a ≡ Byte place b → a ≡ b
byte_of place a b e = cc

cell_of : (place a b : ℕ) → Cell place a ≡ Cell place b → a ≡ b
cell_of place a b e = cc

pub node_places_once : (n : Node) → EachOnce (node_places n)
node_places_once (Word (word.Byte place)) = down_once (Byte place) 8 (byte_of place)
node_places_once (Word (word.Cell place)) = down_once (Cell place) 16 (cell_of place)
node_places_once (Word n) = λ j k q e f. absurd (get_none j q e)
node_places_once (Bit n) = λ j k q e f. absurd (get_none j q e)

pub node_owner : (n : Node) (j : ℕ) (q : Place) → slice_get (node_places n) j ≡ Some q → owner q ≡ n
node_owner (Word (word.Byte place)) j q e = let is = down_at (Byte place) 8 j q e in ap owner (sym is.2)
node_owner (Word (word.Cell place)) j q e = let is = down_at (Cell place) 16 j q e in ap owner (sym is.2)
node_owner (Word n) j q e = absurd (get_none j q e)
node_owner (Bit n) j q e = absurd (get_none j q e)

pub same_owner : (n m : Node) (i j : ℕ) (q : Place) → slice_get (node_places n) i ≡ Some q → slice_get (node_places m) j ≡ Some q → n ≡ m
same_owner n m i j q e f = sym (node_owner n i q e) ∙ node_owner m j q f

pub place_under : (g : Terms) (bits : List BitId) (k : ℕ) (n : Node) (j : ℕ) (q : Place) → slice_get g.nodes k ≡ Some n → IsUnderAny g bits k →
    slice_get (node_places n) j ≡ Some q → IsPlaceUnder g bits q
place_under g bits k (Word (word.Byte place)) j q at under e =
    let is = down_at (Byte place) 8 j q e in
    subst (λ (p : Place). IsPlaceUnder g bits p) is.2 ((let s = is.1 in omega (arith, s)), k, at, under)
place_under g bits k (Word (word.Cell place)) j q at under e =
    let is = down_at (Cell place) 16 j q e in
    subst (λ (p : Place). IsPlaceUnder g bits p) is.2 ((let s = is.1 in omega (arith, s)), k, at, under)
place_under g bits k (Word n) j q at under e = absurd (get_none j q e)
place_under g bits k (Bit n) j q at under e = absurd (get_none j q e)

-- each place has a number of its own
abbrev pub IsInRange : Place → Type 0
IsInRange (Byte place b) = (place < 16) × (b < 8)
IsInRange (Cell place b) = (place < 256) × (b < 16)

pub place_in_range : (g : Terms) (n : Node) (j : ℕ) (q : Place) → IsPlaced g n → slice_get (node_places n) j ≡ Some q → IsInRange q
place_in_range g (Word (word.Byte place)) j q placed e =
    let is = down_at (Byte place) 8 j q e in
    subst (λ (p : Place). IsInRange p) is.2 (placed, (let s = is.1 in omega (arith, s)))
place_in_range g (Word (word.Cell place)) j q placed e =
    let is = down_at (Cell place) 16 j q e in
    subst (λ (p : Place). IsInRange p) is.2 (placed, (let s = is.1 in omega (arith, s)))
place_in_range g (Word n) j q placed e = absurd (get_none j q e)
place_in_range g (Bit n) j q placed e = absurd (get_none j q e)

abbrev pub code : Place → ℕ
code (Byte place b) = 8 * place + b
code (Cell place b) = 128 + 16 * place + b

code_small : (q : Place) → IsInRange q → code q < 4224
code_small (Byte place b) h = (let p = h.0 in let s = h.1 in omega (arith, p, s))
code_small (Cell place b) h = (let p = h.0 in let s = h.1 in omega (arith, p, s))

pub same_code : (q r : Place) → IsInRange q → IsInRange r → code q ≡ code r → q ≡ r
same_code (Byte p a) (Byte q b) h k e = (let f : p ≡ q = (let x = h.1 in let y = k.1 in omega (arith, x, y, e)) in let s : a ≡ b = omega (arith, e, f) in cc)
same_code (Byte p a) (Cell q b) h k e = (let x = h.0 in let y = h.1 in absurd (omega (arith, x, y, e)))
same_code (Cell p a) (Byte q b) h k e = (let x = k.0 in let y = k.1 in absurd (omega (arith, x, y, e)))
same_code (Cell p a) (Cell q b) h k e = (let f : p ≡ q = (let x = h.1 in let y = k.1 in omega (arith, x, y, e)) in let s : a ≡ b = omega (arith, e, f) in cc)

other_codes : (p : Place) (ps : List Place) → ((k : ℕ) (q : Place) → slice_get ps k ≡ Some q → code p ≢ code q) → AllByRecursion (λ c. (code p == c) ≡ false) (map code ps)
other_codes p [] other = tt
other_codes p (q ∷ ps) other = (ne_eqb (code p) (code q) (other 0 q refl), other_codes p ps (λ k r e. other (suc k) r e))

distinct_codes : (ps : List Place) → ((k : ℕ) (q : Place) → slice_get ps k ≡ Some q → IsInRange q) → EachOnce ps → IsDistinct (λ x y. x == y) (map code ps)
unfolding IsDistinct
distinct_codes [] range once = tt
distinct_codes (p ∷ ps) range once = (
  other_codes p ps (λ k q e same.
      let eq : p ≡ q = same_code p q (range 0 p refl) (range (suc k) q e) same in
      let zero_is : 0 ≡ suc k = once 0 (suc k) p refl (e ∙ ap Some (sym eq)) in absurd (omega (arith, zero_is))),
  distinct_codes ps (λ k q e. range (suc k) q e) (λ j k q e f. let s = once (suc j) (suc k) q e f in omega (arith, s)),
)

codes_small : (ps : List Place) → ((k : ℕ) (q : Place) → slice_get ps k ≡ Some q → IsInRange q) → (c : ℕ) → list_any (λ x. c == x) (map code ps) ≡ true → c < 4224
codes_small [] range c any = absurd (cc)
codes_small (p ∷ ps) range c any = elim (cases_eq c (code p)) [
  | inl e ↦ (let small = code_small p (range 0 p refl) in omega (arith, e, small))
  | inr ne ↦ codes_small ps (λ k q e. range (suc k) q e) c (ap (λ b. b || list_any (λ x. c == x) (map code ps)) (sym (ne_eqb c (code p) ne)) ∙ any)
]

pub few_places : (ps : List Place) → ((k : ℕ) (q : Place) → slice_get ps k ≡ Some q → IsInRange q) → EachOnce ps → length ps ≤ 4224
few_places ps range once = subst (λ n. n ≤ 4224) (length-map ps code) (length-le_from_distinct_below (map code ps) 4224 (distinct_codes ps range once) (codes_small ps range))
