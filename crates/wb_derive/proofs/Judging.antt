-- The steps of a derivation one after the other.
use Rattle.std.proofs.Common.{◌≡◌, ℕ, zero, suc, ◌+◌, ◌<◌, ◌≤◌, ◌⊎◌, inl, inr, Bool, true, false, List, [], ◌∷◌, take, Option, Some, None, refl, sym, ◌∙◌, ap, subst, arith}
use Rattle.std.specs.List.{slice_get}
use Rattle.std.proofs.Math.Path.{fun_ext}
use Rattle.std.proofs.lemmas.Bool.{ne_eqb, false≢true}
use Rattle.std.proofs.lemmas.Option.{slice_get_within}
use Rattle.wb_gate.specs.declared.gates.Lit.{Lit}
use Rattle.wb_gate.specs.Circuit.{Circuit, variables}
use Rattle.wb_gate.specs.Clauses.{names_only}
use Rattle.wb_derive.specs.declared.steps.Step.{Step}
use Rattle.wb_derive.specs.declared.scratch.Mark.{Mark}
use Rattle.wb_derive.specs.Partial.{Partial, nothing, refute}
use Rattle.wb_derive.specs.Lawful.{known_before, IsLawfulAt}
use Rattle.wb_derive.specs.Verdict.{AreLawful, IsStoppedAt}
use Rattle.wb_derive.specs.Course.{mark_value, partial_of, run, is_lawful, StampsWithin, NameOnly}
use Rattle.wb_derive.proofs.Runs.{lawful_is, is_lawful_true}

-- under a new stamp no variable has a value
fresh_nothing : (marks : List Mark) (last stamp : ℕ) → stamp ≡ last + 1 → StampsWithin last marks → partial_of marks stamp ≡ nothing
fresh_nothing marks last stamp e within = fun_ext (λ x. by x (slice_get marks x) refl)
  where
    by : (x : ℕ) (o : Option Mark) → slice_get marks x ≡ o → mark_value stamp o ≡ None
    by x None h = refl
    by x (Some mark) h =
        let below : mark.stamp ≤ last = within.each x mark h in
        rw (ne_eqb mark.stamp stamp (λ same. omega arith)) refl

pub lawful_run : (n : ℕ) (known : List (List Lit)) (step : Step) (marks : List Mark) (last stamp : ℕ) (q : Partial) (b : Bool) → stamp ≡ last + 1 → StampsWithin last marks → names_only n step.clause ≡ true → q ≡ refute step.clause (partial_of marks stamp) → b ≡ run known step.hints q → b ≡ is_lawful n known step
lawful_run n known step marks last stamp q b e within named at is =
    is ∙ ap (run known step.hints) (at ∙ ap (refute step.clause) (fresh_nothing marks last stamp e within))
    ∙ sym (rw named refl)

split : (m n : ℕ) → (m < n) ⊎ (n ≤ m)
split m n = grind arith

-- one lawful step more
pub lawful_more : (c : Circuit) (steps : List Step) (place : ℕ) (step : Step) (b : Bool) → AreLawful c steps place → slice_get steps place ≡ Some step → b ≡ is_lawful (variables c) (known_before c steps place) step → b ≡ true → AreLawful c steps (place + 1)
lawful_more c steps place step b before found e is = λ k h. by k (split k place) h
  where
    here : IsLawfulAt c steps place
    here = record { step = step; found = found; lawful = lawful_is (variables c) (known_before c steps place) step (sym e ∙ is) }

    by : (k : ℕ) → (k < place) ⊎ (place ≤ k) → k < place + 1 → IsLawfulAt c steps k
    by k (inl earlier) h = before k earlier
    by k (inr later) h =
        let same : place ≡ k = omega arith in
        let P : ℕ → Type 0 = λ n. IsLawfulAt c steps n in
        subst P same here

get_front : (n k : ℕ) (xs : List Step) (x : Step) → slice_get (take n xs) k ≡ Some x → (k < n) × (slice_get xs k ≡ Some x)
get_front zero k xs x e = absurd (cc)
get_front (suc n) k [] x e = absurd (cc)
get_front (suc n) zero (y ∷ xs) x e = (omega arith, e)
get_front (suc n) (suc k) (y ∷ xs) x e = let rest = get_front n k xs x e in (let h = rest.0 in omega arith, rest.1)

-- lawful steps name variables of the formula alone
pub lawful_named : (c : Circuit) (steps : List Step) (place : ℕ) → AreLawful c steps place → NameOnly (variables c) (take place steps)
lawful_named c steps place lawful = record { each = λ k step e. by k step (get_front place k steps step e) }
  where
    by : (k : ℕ) (step : Step) → (k < place) × (slice_get steps k ≡ Some step) → names_only (variables c) step.clause ≡ true
    by k step found =
        let at = lawful k found.0 in
        let same : at.step ≡ step = let e = at.found in let f = found.1 in cc in
        ap (λ (s : Step). names_only (variables c) s.clause) (sym same) ∙ at.lawful.named

pub stopped : (c : Circuit) (steps : List Step) (place : ℕ) (step : Step) (b : Bool) → slice_get steps place ≡ Some step → b ≡ is_lawful (variables c) (known_before c steps place) step → b ≡ false → IsStoppedAt c steps place
stopped c steps place step b found e is =
    inl (slice_get_within steps place step found, λ at. false≢true (sym is ∙ e ∙ by at))
  where
    by : IsLawfulAt c steps place → is_lawful (variables c) (known_before c steps place) step ≡ true
    by at =
        let same : at.step ≡ step = let f = at.found in cc in
        ap (is_lawful (variables c) (known_before c steps place)) (sym same)
        ∙ is_lawful_true (variables c) (known_before c steps place) at.step at.lawful
