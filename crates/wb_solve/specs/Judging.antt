-- What literals, clauses and the clauses of a gate come to under some values.
use Rattle.std.specs.Prelude.{◌≡◌, ℕ, ◌+◌, List, Some}
use Rattle.std.specs.List.{slice_get}
use Rattle.wb_gate.specs.declared.gates.Lit.{Lit}
use Rattle.wb_derive.specs.Partial.{Partial, IsFalse, IsOpen, IsFalsified, IsUnit}
use Rattle.wb_solve.specs.declared.judging.Truth.{Truth}
use Rattle.wb_solve.specs.declared.judging.Truth.TheVariants as truth
use Rattle.wb_solve.specs.declared.judging.Seen.{Seen}
use Rattle.wb_solve.specs.declared.judging.Next.{Next}
use Rattle.wb_solve.specs.declared.judging.Next.TheVariants.{Stays, Makes, Falsified}
use Rattle.wb_solve.specs.declared.judging.Found.{Found}
use Rattle.wb_solve.specs.declared.judging.Found.TheVariants as found
use Rattle.wb_solve.specs.Descent.{IsUnitAt}
use Rattle.wb_solve.specs.Turns.{FalsifiedAt}
use Rattle.wb_solve.specs.Trails.{Holds}

abbrev pub IsTruth : Partial → Lit → Truth → Type 0
IsTruth p l truth.True = Holds p l
IsTruth p l truth.False = IsFalse p l
IsTruth p l truth.Open = IsOpen p l

abbrev pub IsSeen : Partial → Seen → Type 0
IsSeen p seen = IsTruth p seen.lit seen.truth

-- neither falsified nor unit
pub record IsQuiet (p : Partial) (clause : List Lit) : Type 0 where
  pub no_falsified : IsFalsified p clause → ⊥
  pub no_unit : (l : Lit) → IsUnit p clause l → ⊥

abbrev pub AreQuiet : Partial → List (List Lit) → Type 0
AreQuiet p clauses = (k : ℕ) (clause : List Lit) → slice_get clauses k ≡ Some clause → IsQuiet p clause

abbrev pub IsNext : Partial → List Lit → Next → Type 0
IsNext p clause Stays = IsQuiet p clause
IsNext p clause (Makes l) = IsUnit p clause l
IsNext p clause Falsified = IsFalsified p clause

-- what is found among clauses that have numbers from the first one on
abbrev pub IsFound : Partial → ℕ → List (List Lit) → Found → Type 0
IsFound p first clauses found.Nothing = AreQuiet p clauses
IsFound p first clauses (found.Unit number l) = (k : ℕ) × (number ≡ first + k) × IsUnitAt clauses p k l
IsFound p first clauses (found.Falsified number) = (k : ℕ) × (number ≡ first + k) × FalsifiedAt clauses p k
