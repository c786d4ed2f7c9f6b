-- What is true of every derivation.
use Rattle.std.specs.Prelude.{◌≡◌, List}
use Rattle.wb_gate.specs.Circuit.{Circuit, Assignment}
use Rattle.wb_gate.specs.Clauses.{Satisfies}
use Rattle.wb_derive.specs.declared.steps.Step.{Step}
use Rattle.wb_derive.specs.declared.verdicts.Check.{Check}
use Rattle.wb_derive.specs.declared.verdicts.Check.TheVariants.{Yes}
use Rattle.wb_derive.specs.Verdict.{IsVerdict}

-- A derivation has one verdict alone, and where it is yes, no assignment satisfies the formula.
pub record VerdictsAreSound : Type 0 where
  pub one : (c : Circuit) (steps : List Step) (verdict other : Check) → IsVerdict c steps verdict → IsVerdict c steps other → verdict ≡ other
  pub sound : (c : Circuit) (steps : List Step) → IsVerdict c steps Yes → (v : Assignment) → Satisfies v c → ⊥
