-- What a checked question comes to.
use Rattle.std.specs.Prelude.{◌≡◌, ℕ, ◌^◌, Bool, true, false, List, length}
use Rattle.wb_gate.specs.Circuit.{Circuit, variables}
use Rattle.wb_gate.specs.Clauses.{Satisfies}
use Rattle.wb_term.specs.declared.nodes.BitId.{BitId}
use Rattle.wb_term.specs.Inputs.{Assignment, IsAssignment}
use Rattle.wb_term.specs.Terms.{Terms}
use Rattle.wb_term.specs.Values.{bit_value}
use Rattle.wb_blast.specs.declared.blasting.Blasted.{Blasted}
use Rattle.wb_blast.specs.Blasting.{IsBlasted}
use Rattle.wb_derive.specs.declared.verdicts.Check.TheVariants.{No}
use Rattle.wb_derive.specs.Verdict.{IsVerdict}
use Rattle.wb_solve.specs.declared.search.Answer.{Answer}
use Rattle.wb_solve.specs.declared.search.Answer.TheVariants.{Sat, Unsat, Spent}
use Rattle.wb_solve.specs.Answers.{IsSpent}
use Rattle.wb_query.specs.declared.asking.Found.{Found}
use Rattle.wb_query.specs.declared.asking.Found.TheVariants.{Holds, Never}
use Rattle.wb_query.specs.declared.asking.AskFault.{AskFault}
use Rattle.wb_query.specs.declared.asking.AskFault.TheVariants as fault
use Rattle.wb_query.specs.Oracles.{assigned}

-- the bit is true under these inputs, or under none
abbrev pub IsFound : Terms → BitId → Found → Type 0
IsFound g bit (Holds inputs) = IsAssignment inputs × (bit_value inputs g bit ≡ true)
IsFound g bit Never = (inputs : Assignment) → IsAssignment inputs → bit_value inputs g bit ≡ false

-- the list has a value for each variable, and these satisfy the formula
pub record AreSatisfying (c : Circuit) (values : List Bool) : Type 0 where
  pub count : length values ≡ variables c
  pub satisfied : Satisfies (assigned values) c

-- values that don't satisfy the formula, a derivation to which the checker says no, or a spent search
abbrev pub IsWrong : Circuit → Answer → Type 0
IsWrong c (Sat values) = AreSatisfying c values → ⊥
IsWrong c (Unsat steps) = (number : ℕ) × IsVerdict c steps (No number)
IsWrong c (Spent steps) = Unit {0}

-- the formula and the places are those of the bit
abbrev pub IsFormulaOf : Terms → BitId → Blasted → Type 0
IsFormulaOf g bit b = IsBlasted g bit (2 ^ 31) b.formula b.places.items

-- each fault with its cause
abbrev pub IsAskFault : Terms → BitId → Bool → ℕ → AskFault → Type 0
IsAskFault g bit sound limit (fault.Spent b steps) = IsFormulaOf g bit b × IsSpent b.formula limit steps × (sound ≡ true)
IsAskFault g bit sound limit (fault.BadAnswer b answer) = IsFormulaOf g bit b × IsWrong b.formula answer × (sound ≡ false)
IsAskFault g bit sound limit fault.OutOfMemory = Unit {0}

-- what holds of the answer that a fault carries
abbrev pub OfBadAnswer : (Circuit → Answer → Type 0) → AskFault → Type 0
OfBadAnswer P (fault.BadAnswer b answer) = P b.formula answer
OfBadAnswer P (fault.Spent b steps) = Unit {0}
OfBadAnswer P fault.OutOfMemory = Unit {0}
