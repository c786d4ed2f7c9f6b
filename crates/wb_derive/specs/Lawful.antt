-- When a step of a derivation is lawful.
use Rattle.std.specs.Prelude.{◌≡◌, ℕ, true, ◌⊎◌, List, [], ◌∷◌, ◌++◌, map, take, Some}
use Rattle.std.specs.List.{slice_get}
use Rattle.wb_gate.specs.declared.gates.Lit.{Lit}
use Rattle.wb_gate.specs.Circuit.{Circuit, variables}
use Rattle.wb_gate.specs.Clauses.{clauses_of, names_only}
use Rattle.wb_derive.specs.declared.steps.Step.{Step}
use Rattle.wb_derive.specs.Partial.{Partial, nothing, assume, refute, IsFalsified, IsUnit}

-- the hints, taken in order, each name a known clause that is unit, whose literal is then assumed, and the last
-- names one that is falsified
abbrev pub Refutes : List (List Lit) → List ℕ → Partial → Type 0
Refutes known [] p = ⊥
Refutes known (hint ∷ hints) p =
    (clause : List Lit) × (slice_get known hint ≡ Some clause)
    × ((IsFalsified p clause × (hints ≡ []))
    ⊎ ((l : Lit) × IsUnit p clause l × Refutes known hints (assume p l)))

-- a step is lawful where its clause names only variables of the formula, and its hints refute the assumption
-- that all literals of its clause are false
pub record IsLawful (n : ℕ) (known : List (List Lit)) (step : Step) : Type 0 where
  pub named : names_only n step.clause ≡ true
  pub refuted : Refutes known step.hints (refute step.clause nothing)

-- the clauses that a step may name: those of the formula, then those of the steps before it
abbrev pub known_before : Circuit → List Step → ℕ → List (List Lit)
known_before c steps place = clauses_of c ++ map (λ s. s.clause) (take place steps)

-- there is a step at this place, and it is lawful
pub record IsLawfulAt (c : Circuit) (steps : List Step) (place : ℕ) : Type 0 where
  pub step : Step
  pub found : slice_get steps place ≡ Some step
  pub lawful : IsLawful (variables c) (known_before c steps place) step
