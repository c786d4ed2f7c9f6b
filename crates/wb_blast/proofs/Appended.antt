-- Elements of two lists, one after the other.
use Rattle.std.proofs.Common.{◌≡◌, ℕ, zero, suc, ◌+◌, ◌<◌, ◌⊎◌, List, [], ◌∷◌, ◌++◌, length, Some, slice_get, refl, ◌∙◌, ap, inl, inr, arith}
use Rattle.wb_term.specs.Nodes.{IsAmong}

pub get_left : {X : Type 0} (xs ys : List X) (k : ℕ) → k < length xs → slice_get (xs ++ ys) k ≡ slice_get xs k
get_left [] ys k h = absurd (omega (arith, h))
get_left (x ∷ xs) ys zero h = refl
get_left (x ∷ xs) ys (suc k) h = get_left xs ys k (omega (arith, h))

pub get_right : {X : Type 0} (xs ys : List X) (k : ℕ) → slice_get (xs ++ ys) (length xs + k) ≡ slice_get ys k
get_right [] ys k = ap (slice_get ys) (omega arith)
get_right (x ∷ xs) ys k = (let e : length (x ∷ xs) + k ≡ suc (length xs + k) = omega arith in ap (slice_get (x ∷ xs ++ ys)) e) ∙ get_right xs ys k

pub get_none : {X : Type 0} (k : ℕ) (x : X) → slice_get [] k ≡ Some x → ⊥
get_none zero x e = absurd (cc)
get_none (suc k) x e = absurd (cc)

-- an element of the whole list is one of the first or one of the second
pub get_cases : {X : Type 0} (xs ys : List X) (k : ℕ) (x : X) → slice_get (xs ++ ys) k ≡ Some x →
    (slice_get xs k ≡ Some x) ⊎ ((j : ℕ) × (k ≡ length xs + j) × (slice_get ys j ≡ Some x))
get_cases [] ys k x e = inr (k, omega arith, e)
get_cases (y ∷ xs) ys zero x e = inl e
get_cases (y ∷ xs) ys (suc k) x e = elim (get_cases xs ys k x e) [
  | inl old ↦ inl old
  | inr (j, is, at) ↦ inr (j, omega (arith, is), at)
]

pub among_cases : (ks : List ℕ) (j k : ℕ) → IsAmong j (ks ++ k ∷ []) → IsAmong j ks ⊎ (j ≡ k)
among_cases [] j k among = elim among [ inl e ↦ inr e | inr none ↦ absurd none ]
among_cases (x ∷ ks) j k among = elim among [
  | inl e ↦ inl (inl e)
  | inr rest ↦ elim (among_cases ks j k rest) [ inl old ↦ inl (inr old) | inr e ↦ inr e ]
]
