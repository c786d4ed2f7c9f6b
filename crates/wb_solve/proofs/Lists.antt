-- Which elements a list has.
use Rattle.std.proofs.Common.{◌≡◌, ℕ, zero, suc, ◌+◌, ◌<◌, Bool, true, false, ◌&&◌, List, [], ◌∷◌, ◌++◌, length, take, Some, refl, ◌∙◌, ap, arith}
use Rattle.std.specs.List.{slice_get, list_all}

-- the list has this element somewhere
abbrev pub Has : {X : Type 0} → List X → X → Type 0
Has xs x = (number : ℕ) × (slice_get xs number ≡ Some x)

pub has_left : {X : Type 0} (xs ys : List X) (x : X) → Has xs x → Has (xs ++ ys) x
has_left xs ys x h = (h.0, by xs h.0 h.1)
  where
    by : (zs : List _) (k : ℕ) → slice_get zs k ≡ Some x → slice_get (zs ++ ys) k ≡ Some x
    by [] k e = absurd (cc)
    by (z ∷ zs) zero e = e
    by (z ∷ zs) (suc k) e = by zs k e

pub get_after : {X : Type 0} (xs ys : List X) (k : ℕ) → slice_get (xs ++ ys) (length xs + k) ≡ slice_get ys k
get_after [] ys k = let e : 0 + k ≡ k = omega arith in ap (slice_get ys) e
get_after (x ∷ xs) ys k =
    let e : length (x ∷ xs) + k ≡ suc (length xs + k) = omega arith in
    ap (slice_get (x ∷ (xs ++ ys))) e ∙ get_after xs ys k

pub has_right : {X : Type 0} (xs ys : List X) (x : X) → Has ys x → Has (xs ++ ys) x
has_right xs ys x h = (length xs + h.0, get_after xs ys h.0 ∙ h.1)

pub get_taken : {X : Type 0} (xs : List X) (j k : ℕ) → j < k → slice_get (take k xs) j ≡ slice_get xs j
get_taken xs j zero h = absurd (omega arith)
get_taken [] j (suc k) h = refl
get_taken (x ∷ xs) zero (suc k) h = refl
get_taken (x ∷ xs) (suc j) (suc k) h = get_taken xs j k (omega arith)

-- an element fails a test that not all pass
pub some_fails : {X : Type 0} (test : X → Bool) (xs : List X) → list_all test xs ≡ false → (x : X) × Has xs x × (test x ≡ false)
some_fails test [] h = absurd (cc)
some_fails test (x ∷ xs) h = by (some_fails test xs) (test x) refl h
  where
    by : (list_all test xs ≡ false → (y : _) × Has xs y × (test y ≡ false)) → (b : Bool) → test x ≡ b → (b && list_all test xs) ≡ false → (y : _) × Has (x ∷ xs) y × (test y ≡ false)
    by later false e h = (x, (0, refl), e)
    by later true e h = let found = later h in (found.0, (suc found.1.0, found.1.1), found.2)

-- all pass a test that no element fails
pub all_pass : {X : Type 0} (test : X → Bool) (xs : List X) → ((x : X) → Has xs x → test x ≡ false → ⊥) → list_all test xs ≡ true
all_pass test xs h = by (list_all test xs) refl
  where
    by : (b : Bool) → list_all test xs ≡ b → list_all test xs ≡ true
    by true e = e
    by false e = let found = some_fails test xs e in absurd (h found.0 found.1 found.2)

pub get_left : {X : Type 0} (xs ys : List X) (k : ℕ) (x : X) → slice_get xs k ≡ Some x → slice_get (xs ++ ys) k ≡ Some x
get_left [] ys k x e = absurd (cc)
get_left (y ∷ xs) ys zero x e = e
get_left (y ∷ xs) ys (suc k) x e = get_left xs ys k x e
