-- What is listed, where one more is put at the end.
use Rattle.std.proofs.Common.{◌≡◌, ℕ, zero, suc, ◌+◌, ◌<◌, List, [], ◌∷◌, ◌++◌, Some, length, take, get_or, refl, sym, ap, ◌∙◌, arith}
use Rattle.std.specs.Prelude.{Contains, slice_get, slice_index_or}
use Rattle.std.proofs.lemmas.List.{take_more, get_or_push, length_push}

pub listed_none : {X : Type 0} (x : X) → Contains [] x → ⊥
listed_none x (k, less, e) = absurd (omega arith)

-- what has a place in a list is listed
pub listed_at : {X : Type 0} (xs : List X) (k : ℕ) (x : X) → slice_get xs k ≡ Some x → Contains xs x
listed_at [] k x e = absurd (cc)
listed_at (y ∷ xs) zero x e = (0, omega arith, (let q : y ≡ x = cc in q))
listed_at (y ∷ xs) (suc k) x e = let r = listed_at xs k x e in (suc r.0, omega (arith, r.1), r.2)

-- it is the entry of that place
pub entry_at : {X : Type 0} (xs : List X) (k : ℕ) (d x : X) → slice_get xs k ≡ Some x → (k < length xs) × (slice_index_or xs k d ≡ x)
entry_at [] k d x e = absurd (cc)
entry_at (y ∷ xs) zero d x e = (omega arith, (let q : y ≡ x = cc in q))
entry_at (y ∷ xs) (suc k) d x e = let r = entry_at xs k d x e in (omega (arith, r.0), r.1)

-- the first entries, and the next one
pub taken_more : {X : Type 0} (xs : List X) (k : ℕ) (x : X) → slice_get xs k ≡ Some x → take (k + 1) xs ≡ take k xs ++ x ∷ []
taken_more {X} xs k x e =
    let r = entry_at xs k x x e in
    take_more xs k x r.0 ∙ ap (λ (y : X). take k xs ++ y ∷ []) r.1

-- lists that are equal end by the same
pub same_last : (xs ys : List ℕ) (x y : ℕ) → xs ++ x ∷ [] ≡ ys ++ y ∷ [] → x ≡ y
same_last xs ys x y e =
    let counts : length xs + 1 ≡ length ys + 1 = sym (length_push xs x) ∙ ap length e ∙ length_push ys y in
    let long : length ys ≡ length xs = omega (arith, counts) in
    sym (get_or_push xs x 0 (length xs) refl) ∙ ap (λ (zs : List ℕ). get_or zs (length xs) 0) e ∙ get_or_push ys y 0 (length xs) long
