-- Clauses that were looked at, one after the other.
use Rattle.std.proofs.Common.{◌≡◌, ℕ, zero, suc, ◌+◌, ◌<◌, ◌≤◌, Bool, true, false, ◌&&◌, List, [], ◌∷◌, length, take, Some, slice_get, get_or, refl, sym, ◌∙◌, ap, ap₂, arith}
use Rattle.std.proofs.lemmas.List.{take_all}
use Rattle.std.proofs.lemmas.List.Folds.{list_all_more}
use Rattle.std.proofs.lemmas.Option.{slice_get_within, slice_get_cases}
use Rattle.std.specs.List.{list_all}

element : {X : Type 0} (xs : List X) (n : ℕ) (x : X) → slice_get xs n ≡ Some x → get_or xs n x ≡ x
element [] zero x e = absurd (cc)
element [] (suc n) x e = absurd (cc)
element (y ∷ xs) zero x e = cc
element (y ∷ xs) (suc n) x e = element xs n x e

pub all_more : {X : Type 0} (p : X → Bool) (xs : List X) (n : ℕ) (x : X) → slice_get xs n ≡ Some x → list_all p (take n xs) ≡ true → p x ≡ true → list_all p (take (n + 1) xs) ≡ true
all_more p xs n x at before here =
    list_all_more p xs n x (slice_get_within xs n x at) ∙ ap₂ (λ a b. a && b) before (ap p (element xs n x at) ∙ here)

false_and : (b : Bool) → (b && false) ≡ false
false_and true = refl
false_and false = refl

pub not_all : {X : Type 0} (p : X → Bool) (xs : List X) (n : ℕ) (x : X) → slice_get xs n ≡ Some x → p x ≡ false → list_all p xs ≡ false
not_all p [] zero x at fails = absurd (cc)
not_all p [] (suc n) x at fails = absurd (cc)
not_all p (y ∷ xs) zero x at fails = (let same : y ≡ x = cc in ap (λ b. b && list_all p xs) (ap p same ∙ fails))
not_all p (y ∷ xs) (suc n) x at fails = ap (λ b. p y && b) (not_all p xs n x at fails) ∙ false_and (p y)

pub all_at_end : {X : Type 0} (p : X → Bool) (xs : List X) (n : ℕ) → length xs ≤ n → list_all p (take n xs) ≡ true → list_all p xs ≡ true
all_at_end p xs n h all = ap (list_all p) (sym (take_all n xs h)) ∙ all
