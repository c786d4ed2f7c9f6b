-- Members of a list that are different from one another are no more than the list has.
use Rattle.std.proofs.Common.{◌≡◌, ℕ, zero, suc, ◌≤◌, ◌<◌, List, [], ◌∷◌, ◌++◌, ◌⊎◌, ◌≢◌, length, length-append, ap, subst, arith}
use mathlib.Core.Logic.◌⊎◌.{inl, inr}
use Rattle.std.specs.Prelude.{slice_index_or}
use Rattle.std.specs.List.{All, AllPairs, AllByRecursion, Contains}
use Rattle.std.proofs.lemmas.List.Elements.{recursion_from_All}

abbrev pub In : {X : Type 0} → X → List X → Type 0
In x [] = ⊥
In x (y ∷ ys) = (y ≡ x) ⊎ In x ys

contains_in : {X : Type 0} → (ys : List X) (x : X) → Contains ys x → In x ys
contains_in [] x h = let l = h.1 in absurd (omega arith)
contains_in (y ∷ ys) x h = go_by h.0 h.1 h.2 (contains_in ys x)
  where
    go_by : (k : ℕ) → k < length (y ∷ ys) → slice_index_or (y ∷ ys) k x ≡ x → (Contains ys x → In x ys) → In x (y ∷ ys)
    go_by zero l e rest = inl e
    go_by (suc k) l e rest = inr (rest (k, omega arith, e))

-- the lists before and after a member
pub record Parts {X : Type 0} (x : X) (ys : List X) : Type 0 where
  pub before : List X
  pub behind : List X
  pub parts : ys ≡ before ++ x ∷ behind

parts_of : {X : Type 0} → (x : X) (ys : List X) → In x ys → Parts x ys
parts_of x [] h = absurd h
parts_of x (y ∷ ys) (inl e) = record { before = []; behind = ys; parts = ap (λ z. z ∷ ys) e }
parts_of x (y ∷ ys) (inr h) = let p = parts_of x ys h in record { before = y ∷ p.before; behind = p.behind; parts = let e = p.parts in ap (λ zs. y ∷ zs) e }

without : {X : Type 0} → (x z : X) (before behind : List X) → z ≢ x → In x (before ++ z ∷ behind) → In x (before ++ behind)
without x z [] behind other (inl e) = absurd (other e)
without x z [] behind other (inr h) = h
without x z (y ∷ before) behind other (inl e) = inl e
without x z (y ∷ before) behind other (inr h) = inr (without x z before behind other h)

all_without : {X : Type 0} → (z : X) (before behind xs : List X) → AllByRecursion (λ x. z ≢ x) xs → AllByRecursion (λ x. In x (before ++ z ∷ behind)) xs → AllByRecursion (λ x. In x (before ++ behind)) xs
all_without z before behind [] others h = tt
all_without z before behind (x ∷ xs) others h = (without x z before behind others.0 h.0, all_without z before behind xs others.1 h.1)

abbrev pub Different : {X : Type 0} → List X → Type 0
Different [] = Unit {0}
Different (x ∷ xs) = AllByRecursion (λ y. x ≢ y) xs × Different xs

no_more_in : {X : Type 0} → (xs ys : List X) → Different xs → AllByRecursion (λ x. In x ys) xs → length xs ≤ length ys
no_more_in [] ys d h = omega arith
no_more_in {X} (x ∷ xs) ys d h =
    let p = parts_of x ys h.0 in
    let e : ys ≡ p.before ++ x ∷ p.behind = p.parts in
    let inside = subst (λ (zs : List X). AllByRecursion (λ y. In y zs) xs) e h.1 in
    let fewer = no_more_in xs (p.before ++ p.behind) d.1 (all_without x p.before p.behind xs d.0 inside) in
    let a = ap length e in
    omega (arith, length-append p.before (x ∷ p.behind), length-append p.before p.behind)

different_of : {X : Type 0} → (xs : List X) → AllPairs (λ x y. x ≢ y) xs → Different xs
different_of [] h = tt
different_of {X} (x ∷ xs) h =
    (recursion_from_All (λ (y : X). x ≢ y) xs (λ j d l. h zero (suc j) d (omega arith) (omega arith)), different_of xs (λ i j d p q. h (suc i) (suc j) d (omega arith) (omega arith)))

all_in : {X : Type 0} → (xs ys : List X) → AllByRecursion (Contains ys) xs → AllByRecursion (λ x. In x ys) xs
all_in [] ys h = tt
all_in (x ∷ xs) ys h = (contains_in ys x h.0, all_in xs ys h.1)

pub no_more : {X : Type 0} → (xs ys : List X) → AllPairs (λ x y. x ≢ y) xs → All (Contains ys) xs → length xs ≤ length ys
no_more xs ys d h = no_more_in xs ys (different_of xs d) (all_in xs ys (recursion_from_All (Contains ys) xs h))
