-- What the checker computes of a clause and of hints. No public clause cites this.
use Rattle.std.specs.Prelude.{◌≡◌, ℕ, ◌<◌, ◌≤◌, Bool, true, false, not, ◌&&◌, ◌==◌, if◌then◌else◌, List, [], ◌∷◌, ◌++◌, map, Option, Some, None}
use Rattle.std.specs.List.{slice_get, fold}
use Rattle.wb_gate.specs.declared.gates.Lit.{Lit}
use Rattle.wb_derive.specs.declared.steps.Step.{Step}
use Rattle.wb_derive.specs.declared.scratch.Mark.{Mark}
use Rattle.wb_derive.specs.declared.checks.Status.{Status}
use Rattle.wb_derive.specs.declared.checks.Status.TheVariants.{Falsified, Other}
use Rattle.wb_derive.specs.declared.checks.Status.TheVariants.{Unit as UnitOf}
use Rattle.wb_gate.specs.Clauses.{names_only}
use Rattle.wb_derive.specs.Partial.{Partial, nothing, assume, refute}

-- the values that marks give: those with this stamp
abbrev pub mark_value : ℕ → Option Mark → Option Bool
mark_value stamp None = None
mark_value stamp (Some mark) = if mark.stamp == stamp then Some mark.value else None

abbrev pub partial_of : List Mark → ℕ → Partial
partial_of marks stamp = λ x. mark_value stamp (slice_get marks x)

abbrev pub agrees : Bool → Bool → Bool
agrees value true = value
agrees value false = not value

abbrev pub is_same : Lit → Lit → Bool
is_same l m = (l.var == m.var) && agrees l.neg m.neg

-- a clause with one more literal, which has this value
abbrev pub with_open : Status → Lit → Status
with_open Falsified l = UnitOf l
with_open (UnitOf m) l = if is_same m l then UnitOf m else Other
with_open Other l = Other

abbrev pub with_lit : Status → Lit → Option Bool → Status
with_lit s l None = with_open s l
with_lit s l (Some value) = if agrees value l.neg then s else Other

abbrev pub status : Partial → List Lit → Status
status p clause = fold (λ s l. with_lit s l (p l.var)) Falsified clause

-- whether hints refute
abbrev pub by_status : Status → Partial → Bool → (Partial → Bool) → Bool
by_status Falsified p last rest = last
by_status (UnitOf l) p last rest = rest (assume p l)
by_status Other p last rest = false

abbrev pub take_hint : Option (List Lit) → Partial → Bool → (Partial → Bool) → Bool
take_hint None p last rest = false
take_hint (Some clause) p last rest = by_status (status p clause) p last rest

abbrev pub is_nil : List ℕ → Bool
is_nil [] = true
is_nil (_ ∷ _) = false

abbrev pub run : List (List Lit) → List ℕ → Partial → Bool
run known [] p = false
run known (hint ∷ hints) p = take_hint (slice_get known hint) p (is_nil hints) (run known hints)

abbrev pub is_lawful : ℕ → List (List Lit) → Step → Bool
is_lawful n known step = names_only n step.clause && run known step.hints (refute step.clause nothing)

-- the stamps so far
pub record StampsWithin (stamp : ℕ) (marks : List Mark) : Type 0 where
  pub each : (k : ℕ) (mark : Mark) → slice_get marks k ≡ Some mark → mark.stamp ≤ stamp

-- a clause of each of these steps names only variables below n
pub record NameOnly (n : ℕ) (steps : List Step) : Type 0 where
  pub each : (k : ℕ) (step : Step) → slice_get steps k ≡ Some step → names_only n step.clause ≡ true

-- the clauses of a formula, then those of steps
abbrev pub known_from : List (List Lit) → List Step → List (List Lit)
known_from clauses steps = clauses ++ map (λ s. s.clause) steps

-- a literal that a unit clause gives names a variable below n
abbrev pub UnitWithin : ℕ → Option Status → Type 0
UnitWithin n (Some (UnitOf l)) = l.var < n
UnitWithin n _ = Unit {0}
