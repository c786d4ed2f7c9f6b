-- What a check says of a derivation.
use Rattle.std.specs.Prelude.{◌≡◌, ℕ, ◌+◌, ◌-◌, ◌<◌, ◌⊎◌, List, [], length, Some}
use Rattle.std.specs.List.{slice_get}
use Rattle.wb_gate.specs.Circuit.{Circuit}
use Rattle.wb_derive.specs.declared.steps.Step.{Step}
use Rattle.wb_derive.specs.declared.verdicts.Check.{Check}
use Rattle.wb_derive.specs.declared.verdicts.Check.TheVariants.{Yes, No}
use Rattle.wb_derive.specs.Lawful.{IsLawfulAt}

-- the first so many steps are lawful
abbrev pub AreLawful : Circuit → List Step → ℕ → Type 0
AreLawful c steps count = (place : ℕ) → place < count → IsLawfulAt c steps place

-- there is a last step, and its clause is empty
pub record EndsEmpty (steps : List Step) : Type 0 where
  pub last : Step
  pub found : slice_get steps (length steps - 1) ≡ Some last
  pub empty : last.clause ≡ []

-- an unlawful step stands at this place; or all are lawful, this is the place after them, and the last isn't empty
abbrev pub IsStoppedAt : Circuit → List Step → ℕ → Type 0
IsStoppedAt c steps place =
    ((place < length steps) × (IsLawfulAt c steps place → ⊥))
    ⊎ ((place ≡ length steps) × (EndsEmpty steps → ⊥))

-- yes: all steps are lawful, and the last is empty. No: the first place that stops this, counted from 1
abbrev pub IsVerdict : Circuit → List Step → Check → Type 0
IsVerdict c steps Yes = AreLawful c steps (length steps) × EndsEmpty steps
IsVerdict c steps (No number) =
    (place : ℕ) × (number ≡ place + 1) × AreLawful c steps place × IsStoppedAt c steps place
