-- The end of a list: its last element, and what stands before it.
use Rattle.std.proofs.Common.{◌≡◌, ℕ, zero, suc, ◌+◌, ◌-◌, List, [], ◌∷◌, ◌++◌, length, take, drop, refl, ◌∙◌, ap, arith, length-append}
use Rattle.std.proofs.Math.Seq.{take-append_seam}
use Rattle.std.specs.List.{slice_get}
use Rattle.std.specs.declared.option.Option.TheVariants.{Some}

module _ {X : Type 0} where
  length_pushed : (xs : List X) (x : X) → length (xs ++ (x ∷ [])) ≡ length xs + 1
  length_pushed xs x = length-append xs (x ∷ [])

  pub all_but_last : (xs : List X) (x : X) → take (length (xs ++ (x ∷ [])) - 1) (xs ++ (x ∷ [])) ≡ xs
  all_but_last xs x =
      let e : length (xs ++ (x ∷ [])) - 1 ≡ length xs = omega (arith, length_pushed xs x) in
      rw e (take-append_seam xs (x ∷ []))

  get_seam : (xs : List X) (x : X) → slice_get (xs ++ (x ∷ [])) (length xs) ≡ Some x
  get_seam [] x = refl
  get_seam (y ∷ ys) x = get_seam ys x

  pub last_is : (xs : List X) (x : X) → slice_get (xs ++ (x ∷ [])) (length (xs ++ (x ∷ [])) - 1) ≡ Some x
  last_is xs x =
      let e : length (xs ++ (x ∷ [])) - 1 ≡ length xs = omega (arith, length_pushed xs x) in
      rw e (get_seam xs x)

  -- the rest of a list from a place on begins with the element there
  pub drop_at : (xs : List X) (place : ℕ) (x : X) → slice_get xs place ≡ Some x → drop place xs ≡ x ∷ drop (place + 1) xs
  drop_at [] place x e = absurd (cc)
  drop_at (y ∷ ys) zero x e = let same : y ≡ x = cc in ap (λ z. z ∷ ys) same
  drop_at (y ∷ ys) (suc place) x e =
      let next : suc (place + 1) ≡ suc place + 1 = omega arith in
      drop_at ys place x e ∙ ap (λ n. x ∷ drop n (y ∷ ys)) next
