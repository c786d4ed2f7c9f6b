-- What the search computes and keeps. No public clause cites this.
use Rattle.std.specs.Prelude.{◌≡◌, ℕ, ◌+◌, ◌<◌, Bool, true, false, not, ◌&&◌, ◌||◌, ◌==◌, if◌then◌else◌, ◌⊎◌, List, [], ◌∷◌, ◌++◌, find, Option, Some, None}
use Rattle.std.specs.List.{slice_get, list_all}
use Rattle.wb_gate.specs.declared.gates.Lit.{Lit}
use Rattle.wb_gate.specs.Circuit.{Circuit}
use Rattle.wb_gate.specs.Clauses.{clauses_of}
use Rattle.wb_derive.specs.declared.steps.Step.{Step}
use Rattle.wb_derive.specs.Clause.{rises}
use Rattle.wb_derive.specs.Partial.{Partial, IsFalsified, IsUnit}
use Rattle.wb_solve.specs.Descent.{IsUnitAt, clause_of}
use Rattle.wb_solve.specs.Search.{clauses_in}
use Rattle.wb_solve.specs.Laws.{IsWithin}

-- the values that a list of them gives
abbrev pub value_in : Option (Option Bool) → Option Bool
value_in None = None
value_in (Some value) = value

abbrev pub partial_of : List (Option Bool) → Partial
partial_of values = λ x. value_in (slice_get values x)

-- what a clause is under some values: falsified; unit, with this open literal; or neither
pub data Standing : Type 0 where
  Falsified : Standing
  UnitOf : Lit → Standing
  Other : Standing

-- what clauses say under some values: that of this number is falsified; none is falsified, and that of this number is
-- the first unit one, with this open literal; or none is falsified, and none is unit
pub data Found : Type 0 where
  FalsifiedFound : ℕ → Found
  UnitFound : ℕ → Lit → Found
  NoneFound : Found

-- tests of literals
abbrev pub is_false_value : Option Bool → Bool → Bool
is_false_value None neg = false
is_false_value (Some true) neg = neg
is_false_value (Some false) neg = not neg

abbrev pub is_false : Partial → Lit → Bool
is_false p l = is_false_value (p l.var) l.neg

abbrev pub is_none : Option Bool → Bool
is_none None = true
is_none (Some b) = false

abbrev pub is_open : Partial → Lit → Bool
is_open p l = is_none (p l.var)

abbrev pub same_bool : Bool → Bool → Bool
same_bool b true = b
same_bool b false = not b

abbrev pub is_same : Lit → Lit → Bool
is_same l m = (l.var == m.var) && same_bool l.neg m.neg

abbrev pub all_false : Partial → List Lit → Bool
all_false p clause = list_all (is_false p) clause

abbrev pub all_false_but : Lit → Partial → List Lit → Bool
all_false_but l p clause = list_all (λ m. is_same m l || is_false p m) clause

-- the open literal of a clause that would be unit
abbrev pub unit_with : Option Lit → Partial → List Lit → Standing
unit_with None p clause = Other
unit_with (Some l) p clause = if all_false_but l p clause then UnitOf l else Other

abbrev pub standing : Partial → List Lit → Standing
standing p clause = if all_false p clause then Falsified else unit_with (find (is_open p) clause) p clause

-- what a standing says of a clause
pub record IsOther (p : Partial) (clause : List Lit) : Type 0 where
  pub no_falsified : IsFalsified p clause → ⊥
  pub no_unit : (l : Lit) → IsUnit p clause l → ⊥

abbrev pub IsStanding : Partial → List Lit → Standing → Type 0
IsStanding p clause Falsified = IsFalsified p clause
IsStanding p clause (UnitOf l) = IsUnit p clause l
IsStanding p clause Other = IsOther p clause

-- the clause of this number stands so
abbrev pub StandsAt : List (List Lit) → Partial → ℕ → Standing → Type 0
StandsAt known p number s = (clause : List Lit) × (slice_get known number ≡ Some clause) × IsStanding p clause s

-- the literal of a unit clause names a variable below n
abbrev pub UnitWithin : ℕ → Standing → Type 0
UnitWithin n (UnitOf l) = l.var < n
UnitWithin n Falsified = Unit {0}
UnitWithin n Other = Unit {0}

-- none of the first so many clauses is falsified, and none is unit
abbrev pub NoneFalsifiedBelow : List (List Lit) → Partial → ℕ → Type 0
NoneFalsifiedBelow known p count = (number : ℕ) (clause : List Lit) → number < count → slice_get known number ≡ Some clause → IsFalsified p clause → ⊥

abbrev pub NoneUnitBelow : List (List Lit) → Partial → ℕ → Type 0
NoneUnitBelow known p count = (number : ℕ) (l : Lit) → number < count → IsUnitAt known p number l → ⊥

-- what is found in the first so many clauses
abbrev pub IsFound : List (List Lit) → Partial → ℕ → ℕ → Found → Type 0
IsFound known p n count (FalsifiedFound number) = (clause : List Lit) × (slice_get known number ≡ Some clause) × IsFalsified p clause
IsFound known p n count (UnitFound number l) = NoneFalsifiedBelow known p count × IsUnitAt known p number l × NoneUnitBelow known p number × (l.var < n)
IsFound known p n count NoneFound = NoneFalsifiedBelow known p count × NoneUnitBelow known p count

-- what is found with one clause more
abbrev pub noted : Found → ℕ → Standing → Found
noted NoneFound number (UnitOf l) = UnitFound number l
noted NoneFound number Falsified = NoneFound
noted NoneFound number Other = NoneFound
noted (FalsifiedFound first) number s = FalsifiedFound first
noted (UnitFound first l) number s = UnitFound first l

-- how many variables have no value
abbrev pub opens : List (Option Bool) → ℕ
opens [] = 0
opens (None ∷ values) = opens values + 1
opens (Some b ∷ values) = opens values

-- the clauses that a descent knows
abbrev pub known_to : Circuit → List Step → List (List Lit)
known_to c steps = clauses_of c ++ clauses_in steps

-- each of the variables is below n
abbrev pub AllBelow : ℕ → List ℕ → Type 0
AllBelow n [] = Unit {0}
AllBelow n (x ∷ xs) = (x < n) × AllBelow n xs

-- no clause lies within this one
abbrev pub NoneWithin : List (List Lit) → List Lit → Type 0
NoneWithin clauses clause = (number : ℕ) (known : List Lit) → slice_get clauses number ≡ Some known → IsWithin known clause → ⊥

-- what holds of the assumptions within a descent
pub record IsPending (inputs : ℕ) (clauses : List (List Lit)) (p : Partial) (assumed : List ℕ) : Type 0 where
  pub falsified : IsFalsified p (clause_of assumed)
  pub below : AllBelow inputs assumed
  pub under : (x : ℕ) → p x ≡ None → AllBelow x assumed
  pub rises : rises (clause_of assumed) ≡ true
  pub fresh : (assumed ≡ []) ⊎ NoneWithin clauses (clause_of assumed)
