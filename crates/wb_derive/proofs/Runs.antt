-- Hints that refute, as they are computed one after the other.
use Rattle.std.proofs.Common.{◌≡◌, ℕ, ◌⊎◌, inl, inr, Bool, true, false, ◌&&◌, List, [], ◌∷◌, Option, Some, None, refl, ◌∙◌, ap}
use Rattle.std.specs.List.{slice_get}
use Rattle.wb_gate.specs.declared.gates.Lit.{Lit}
use Rattle.wb_gate.specs.Clauses.{names_only}
use Rattle.wb_derive.specs.declared.steps.Step.{Step}
use Rattle.wb_derive.specs.declared.checks.Status.{Status}
use Rattle.wb_derive.specs.declared.checks.Status.TheVariants.{Falsified, Other}
use Rattle.wb_derive.specs.declared.checks.Status.TheVariants.{Unit as UnitOf}
use Rattle.wb_derive.specs.Partial.{Partial, nothing, assume, refute, IsFalsified, IsUnit}
use Rattle.wb_derive.specs.Lawful.{Refutes, IsLawful}
use Rattle.wb_derive.specs.Course.{status, by_status, take_hint, is_nil, run, is_lawful}
use Rattle.wb_derive.proofs.Statuses.{IsStatus, status_is, unit_one, falsified_unit}

nil_is : (hints : List ℕ) → is_nil hints ≡ true → hints ≡ []
nil_is [] h = refl
nil_is (x ∷ xs) h = cc

-- what a hint's clause does
abbrev Refutes_by : List (List Lit) → Partial → List Lit → List ℕ → Type 0
Refutes_by known p clause hints = (IsFalsified p clause × (hints ≡ [])) ⊎ ((l : Lit) × IsUnit p clause l × Refutes known hints (assume p l))

run_refutes : (known : List (List Lit)) (hints : List ℕ) (p : Partial) → run known hints p ≡ true → Refutes known hints p
run_refutes known [] p h = cc
run_refutes known (hint ∷ hints) p h = by (run_refutes known hints) (slice_get known hint) refl h
  where
    taken : ((q : Partial) → run known hints q ≡ true → Refutes known hints q) → (clause : List Lit) (s : Status) → IsStatus p clause s → by_status s p (is_nil hints) (run known hints) ≡ true → Refutes_by known p clause hints
    taken later clause Falsified is h = inl (is, nil_is hints h)
    taken later clause (UnitOf l) is h = inr (l, is, later (assume p l) h)
    taken later clause Other is h = cc

    by : ((q : Partial) → run known hints q ≡ true → Refutes known hints q) → (o : Option (List Lit)) → slice_get known hint ≡ o → take_hint o p (is_nil hints) (run known hints) ≡ true → Refutes known (hint ∷ hints) p
    by later None e h = cc
    by later (Some clause) e h = (clause, e, taken later clause (status p clause) (status_is p clause) h)

refutes_run : (known : List (List Lit)) (hints : List ℕ) (p : Partial) → Refutes known hints p → run known hints p ≡ true
refutes_run known [] p is = absurd is
refutes_run known (hint ∷ hints) p is =
    ap (λ o. take_hint o p (is_nil hints) (run known hints)) is.1
    ∙ by (refutes_run known hints) (status p is.0) (status_is p is.0) is.2
  where
    by : ((q : Partial) → Refutes known hints q → run known hints q ≡ true) → (s : Status) → IsStatus p is.0 s → Refutes_by known p is.0 hints → by_status s p (is_nil hints) (run known hints) ≡ true
    by later Falsified s (inl falsified) = ap is_nil falsified.1
    by later Falsified s (inr unit) = absurd (falsified_unit p is.0 unit.0 s unit.1)
    by later (UnitOf l) s (inl falsified) = absurd (falsified_unit p is.0 l falsified.0 s)
    by later (UnitOf l) s (inr unit) =
        ap (λ k. run known hints (assume p k)) (unit_one p is.0 l unit.0 s unit.1) ∙ later (assume p unit.0) unit.2
    by later Other s (inl falsified) = absurd (s.no_conflict falsified.0)
    by later Other s (inr unit) = absurd (s.no_unit unit.0 unit.1)

pub lawful_is : (n : ℕ) (known : List (List Lit)) (step : Step) → is_lawful n known step ≡ true → IsLawful n known step
lawful_is n known step h = by (names_only n step.clause) refl h
  where
    by : (b : Bool) → names_only n step.clause ≡ b → (b && run known step.hints (refute step.clause nothing)) ≡ true → IsLawful n known step
    by true e h = record { named = e; refuted = run_refutes known step.hints (refute step.clause nothing) h }
    by false e h = cc

pub is_lawful_true : (n : ℕ) (known : List (List Lit)) (step : Step) → IsLawful n known step → is_lawful n known step ≡ true
is_lawful_true n known step is =
    rw is.named (refutes_run known step.hints (refute step.clause nothing) is.refuted)
