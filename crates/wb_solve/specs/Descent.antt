-- Descents: clauses propagate, and inputs are assumed false in turn, until a clause is falsified or there are values.
use Rattle.std.specs.Prelude.{◌≡◌, ℕ, ◌<◌, Bool, List, [], ◌∷◌, ◌++◌, map, Some, None}
use Rattle.std.specs.List.{slice_get}
use Rattle.wb_gate.specs.declared.gates.Lit.{Lit}
use Rattle.wb_gate.specs.Circuit.{minus, variable}
use Rattle.wb_derive.specs.Partial.{Partial, nothing, assume, IsFalsified, IsUnit}

-- some clause is falsified
abbrev pub SomeFalsified : List (List Lit) → Partial → Type 0
SomeFalsified clauses p = (number : ℕ) × (clause : List Lit) × (slice_get clauses number ≡ Some clause) × IsFalsified p clause

-- the clause of this number is unit, and this is its open literal
abbrev pub IsUnitAt : List (List Lit) → Partial → ℕ → Lit → Type 0
IsUnitAt clauses p number l = (clause : List Lit) × (slice_get clauses number ≡ Some clause) × IsUnit p clause l

-- a unit clause gives this literal
abbrev pub SomeUnit : List (List Lit) → Partial → Lit → Type 0
SomeUnit clauses p l = (number : ℕ) × IsUnitAt clauses p number l

-- the first unit clause gives this literal
abbrev pub FirstUnit : List (List Lit) → Partial → Lit → Type 0
FirstUnit clauses p l = (number : ℕ) × IsUnitAt clauses p number l × ((earlier : ℕ) (m : Lit) → earlier < number → IsUnitAt clauses p earlier m → ⊥)

-- no clause is falsified, and none is unit
pub record IsStable (clauses : List (List Lit)) (p : Partial) : Type 0 where
  pub no_falsified : SomeFalsified clauses p → ⊥
  pub no_unit : (l : Lit) → SomeUnit clauses p l → ⊥

-- the variables below n have values
abbrev pub AreValued : ℕ → Partial → Type 0
AreValued n p = (x : ℕ) → x < n → (b : Bool) × (p x ≡ Some b)

-- of the variables below n, x is the least one without a value
pub record IsFirstOpen (n : ℕ) (p : Partial) (x : ℕ) : Type 0 where
  pub below : x < n
  pub still_open : p x ≡ None
  pub valued : AreValued x p

-- how a descent ends: with the clause of the negated assumptions, or with values
pub data Ended : Type 0 where
  Conflict : List Lit → Ended
  Values : Partial → Ended

-- the clause that says that not all of these variables are false
abbrev pub clause_of : List ℕ → List Lit
clause_of assumed = map variable assumed

-- The rest of a descent from some values and the variables that were assumed false, in order. The first rule that
-- applies is taken: a falsified clause ends the descent; a unit clause makes its literal true; the first input
-- without a value is assumed false; and otherwise the descent ends with the values.
pub data DescendsBy (picks : Partial → Lit → Type 0) (inputs : ℕ) (clauses : List (List Lit)) (end : Ended) : Partial → List ℕ → Type 0 where
  conflicts : (p : Partial) (assumed : List ℕ) → SomeFalsified clauses p → end ≡ Conflict (clause_of assumed) → DescendsBy picks inputs clauses end p assumed
  propagates : (p : Partial) (assumed : List ℕ) (l : Lit) → (SomeFalsified clauses p → ⊥) → picks p l → DescendsBy picks inputs clauses end (assume p l) assumed → DescendsBy picks inputs clauses end p assumed
  assumes : (p : Partial) (assumed : List ℕ) (x : ℕ) → IsStable clauses p → IsFirstOpen inputs p x → DescendsBy picks inputs clauses end (assume p (minus (variable x))) (assumed ++ (x ∷ [])) → DescendsBy picks inputs clauses end p assumed
  gives : (p : Partial) (assumed : List ℕ) → IsStable clauses p → AreValued inputs p → end ≡ Values p → DescendsBy picks inputs clauses end p assumed

-- a descent takes the first unit clause; one in some order takes any
abbrev pub Descends : ℕ → List (List Lit) → Ended → Partial → List ℕ → Type 0
Descends inputs clauses end p assumed = DescendsBy (FirstUnit clauses) inputs clauses end p assumed

abbrev pub DescendsInSomeOrder : ℕ → List (List Lit) → Ended → Partial → List ℕ → Type 0
DescendsInSomeOrder inputs clauses end p assumed = DescendsBy (SomeUnit clauses) inputs clauses end p assumed

-- a whole descent begins without values and assumptions
abbrev pub IsDescent : ℕ → List (List Lit) → Ended → Type 0
IsDescent inputs clauses end = Descends inputs clauses end nothing []

-- propagation alone: the literals of unit clauses are made true, in any order
pub data Propagates (clauses : List (List Lit)) : Partial → Partial → Type 0 where
  rests : (p : Partial) → Propagates clauses p p
  goes_on : (p q : Partial) (l : Lit) → SomeUnit clauses p l → Propagates clauses (assume p l) q → Propagates clauses p q
