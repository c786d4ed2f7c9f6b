-- Lists of numbers.
use Rattle.std.proofs.Common.{◌≡◌, ◌≢◌, ℕ, zero, suc, ◌+◌, ◌<◌, ◌≤◌, refl, ap, ◌∙◌, List, [], ◌∷◌, ◌++◌, length, get_or, sym, subst, inl, inr, arith}
use Rattle.std.proofs.lemmas.List.Sums.{sum_by-cons}
use Rattle.std.specs.List.{sum_by}
use Rattle.wb_term.specs.Nodes.{Each, IsAmong}
use Rattle.wb_blast.specs.Number.{AreDistinct}

pub Each-map : (P Q : ℕ → Type 0) → ((k : ℕ) → P k → Q k) → (ks : List ℕ) → Each P ks → Each Q ks
Each-map P Q f [] each = tt
Each-map P Q f (k ∷ ks) each = (f k each.0, Each-map P Q f ks each.1)

pub Each-at : (P : ℕ → Type 0) (ks : List ℕ) (j : ℕ) → Each P ks → IsAmong j ks → P j
Each-at P [] j each among = absurd among
Each-at P (k ∷ ks) j each among = elim among [ inl e ↦ subst P (sym e) each.0 | inr rest ↦ Each-at P ks j each.1 rest ]

pub Each-push : (P : ℕ → Type 0) (ks : List ℕ) (k : ℕ) → Each P ks → P k → Each P (ks ++ k ∷ [])
Each-push P [] k each one = (one, tt)
Each-push P (x ∷ xs) k each one = (each.0, Each-push P xs k each.1 one)

pub among_old : (ks : List ℕ) (j k : ℕ) → IsAmong j ks → IsAmong j (ks ++ k ∷ [])
among_old [] j k among = absurd among
among_old (x ∷ xs) j k among = elim among [ inl e ↦ inl e | inr rest ↦ inr (among_old xs j k rest) ]

pub among_last : (ks : List ℕ) (j k : ℕ) → j ≡ k → IsAmong j (ks ++ k ∷ [])
among_last [] j k e = inl e
among_last (x ∷ xs) j k e = inr (among_last xs j k e)

-- what holds of each number of a list holds of that at a place
pub Each-index : (P : ℕ → Type 0) (ks : List ℕ) (i : ℕ) → Each P ks → i < length ks → P (get_or ks i 0)
Each-index P [] i each h = absurd (omega (arith, h))
Each-index P (k ∷ ks) zero each h = each.0
Each-index P (k ∷ ks) (suc i) each h = Each-index P ks i each.1 (omega (arith, h))

-- a list of numbers without one of them
pub without : (f : ℕ → ℕ) (k : ℕ) (ks : List ℕ) → IsAmong k ks →
    (rest : List ℕ) × (sum_by f ks ≡ f k + sum_by f rest) × ((j : ℕ) → IsAmong j ks → j ≢ k → IsAmong j rest)
without f k [] among = absurd among
without f k (x ∷ xs) among = elim among [
  | inl e ↦ (xs, sum_by-cons f x xs ∙ ap (λ i. f i + sum_by f xs) (sym e), λ j other ne. elim other [ inl same ↦ absurd (ne (same ∙ sym e)) | inr rest ↦ rest ])
  | inr later ↦
      let rest = without f k xs later in (
        x ∷ rest.0,
        (let one = sum_by-cons f x xs in let two = sum_by-cons f x rest.0 in let sum = rest.1 in omega (arith, one, two, sum)),
        λ j other ne. elim other [ inl same ↦ inl same | inr old ↦ inr (rest.2 j old ne) ],
      )
]

-- numbers that are among others, each once, add up to no more
pub sum_of_some : (f : ℕ → ℕ) (ds ks : List ℕ) → AreDistinct ds → ((j : ℕ) → IsAmong j ds → IsAmong j ks) → sum_by f ds ≤ sum_by f ks
sum_of_some f [] ks distinct some = omega arith
sum_of_some f (d ∷ ds) ks distinct some =
    let rest = without f d ks (some d (inl refl)) in
    let less = sum_of_some f ds rest.0 distinct.1 (λ j among. rest.2 j (some j (inr among)) (λ e. distinct.0 (subst (λ i. IsAmong i ds) e among))) in
    let step = sum_by-cons f d ds in
    let sum = rest.1 in
    omega (arith, less, step, sum)
