-- The rest of a list from a place on.
use Rattle.std.proofs.Common.{◌≡◌, ℕ, zero, suc, ◌+◌, List, [], ◌∷◌, ◌++◌, take, drop, ◌∙◌, ap, arith}
use Rattle.std.specs.List.{slice_get}
use Rattle.std.specs.declared.option.Option.TheVariants.{Some}

module _ {X : Type 0} where
  -- the rest from a place on begins with the element there
  pub drop_at : (xs : List X) (place : ℕ) (x : X) → slice_get xs place ≡ Some x → drop place xs ≡ x ∷ drop (place + 1) xs
  drop_at [] place x e = absurd (cc)
  drop_at (y ∷ ys) zero x e = let same : y ≡ x = cc in ap (λ z. z ∷ ys) same
  drop_at (y ∷ ys) (suc place) x e =
      let next : suc (place + 1) ≡ suc place + 1 = omega arith in
      drop_at ys place x e ∙ ap (λ n. x ∷ drop n (y ∷ ys)) next

  -- the front up to a place, the element there, and the rest after it
  pub split_at : (xs : List X) (place : ℕ) (x : X) → slice_get xs place ≡ Some x → xs ≡ take place xs ++ x ∷ drop (place + 1) xs
  split_at [] place x e = absurd (cc)
  split_at (y ∷ ys) zero x e = let same : y ≡ x = cc in ap (λ z. z ∷ ys) same
  split_at (y ∷ ys) (suc place) x e =
      let next : suc (place + 1) ≡ suc place + 1 = omega arith in
      ap (λ zs. y ∷ zs) (split_at ys place x e) ∙ ap (λ n. y ∷ (take place ys ++ x ∷ drop n (y ∷ ys))) next

  -- one element more of the front
  pub take_next : (xs : List X) (place : ℕ) (x : X) → slice_get xs place ≡ Some x → take (place + 1) xs ≡ take place xs ++ x ∷ []
  take_next [] place x e = absurd (cc)
  take_next (y ∷ ys) zero x e = let same : y ≡ x = cc in ap (λ z. z ∷ []) same
  take_next (y ∷ ys) (suc place) x e =
      let next : suc place + 1 ≡ suc (place + 1) = omega arith in
      ap (λ n. take n (y ∷ ys)) next ∙ ap (λ zs. y ∷ zs) (take_next ys place x e)
