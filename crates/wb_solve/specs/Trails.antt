-- The trail: the literals that were made true, in order, and why each was.
use Rattle.std.specs.Prelude.{◌≡◌, ℕ, ◌+◌, ◌<◌, ◌≤◌, Bool, true, false, not, ◌==◌, ◌⊎◌, List, [], ◌∷◌, ◌++◌, length, take, Option, Some, None}
use Rattle.std.specs.List.{slice_get, fold}
use Rattle.wb_gate.specs.declared.gates.Lit.{Lit}
use Rattle.wb_gate.specs.Clauses.{names_only}
use Rattle.wb_derive.specs.Partial.{Partial, nothing, assume, Occurs}
use Rattle.wb_derive.specs.Lawful.{Refutes}
use Rattle.wb_solve.specs.declared.trail.Entry.{Entry}
use Rattle.wb_solve.specs.declared.trail.Reason.{Reason}
use Rattle.wb_solve.specs.declared.trail.Reason.TheVariants.{Assumed, Clause}
use Rattle.wb_solve.specs.Course.{partial_of, opens}
use Rattle.wb_solve.specs.Descent.{IsUnitAt, IsFirstOpen, IsStable}

-- the literal is true
abbrev pub Holds : Partial → Lit → Type 0
Holds p l = p l.var ≡ Some (not l.neg)

-- the values that the entries give
abbrev pub made : List Entry → Partial
made entries = fold (λ p e. assume p e.lit) nothing entries

-- the entries of a trail over so many variables
pub record Track : Type 0 where
  pub entries : List Entry
  pub variables : ℕ

-- each entry made a literal true whose variable had no value
pub record AreNew (n : ℕ) (entries : List Entry) : Type 0 where
  pub was_open : (k : ℕ) (e : Entry) → slice_get entries k ≡ Some e → made (take k entries) e.lit.var ≡ None
  pub below : (k : ℕ) (e : Entry) → slice_get entries k ≡ Some e → e.lit.var < n

pub record IsTrail (entries : List Entry) (values : List (Option Bool)) : Type 0 where
  pub values_made : partial_of values ≡ made entries
  pub new : AreNew (length values) entries
  pub count : length entries + opens values ≡ length values

-- an assumption makes the first input without a value false, and another entry makes the literal of a unit clause
-- true
abbrev pub IsJust : ℕ → List (List Lit) → Partial → Lit → Reason → Type 0
IsJust inputs known p l Assumed = IsFirstOpen inputs p l.var × (l.neg ≡ true)
IsJust inputs known p l (Clause number) = IsUnitAt known p number l

pub record AreJust (inputs : ℕ) (known : List (List Lit)) (entries : List Entry) : Type 0 where
  pub at : (k : ℕ) (e : Entry) → slice_get entries k ≡ Some e → IsJust inputs known (made (take k entries)) e.lit e.reason

-- the variables that were assumed false, in order
abbrev pub assumed_by : Lit → Reason → List ℕ
assumed_by l Assumed = l.var ∷ []
assumed_by l (Clause number) = []

abbrev pub assumed_in : List Entry → List ℕ
assumed_in [] = []
assumed_in (e ∷ es) = assumed_by e.lit e.reason ++ assumed_in es

-- the clauses name only variables below n
abbrev pub AllNamed : ℕ → List (List Lit) → Type 0
AllNamed n known = (k : ℕ) (clause : List Lit) → slice_get known k ≡ Some clause → names_only n clause ≡ true

-- at each assumption no clause was falsified or unit
abbrev pub AreStable : List (List Lit) → List Entry → Type 0
AreStable known entries = (k : ℕ) (e : Entry) → slice_get entries k ≡ Some e → e.reason ≡ Assumed → IsStable known (made (take k entries))

-- What is needed of values so that hints from a place of the trail refute: the values before the place of the marked
-- variables, all assumptions, and no value of a variable that is given one after it.
pub record Suits (entries : List Entry) (marked : ℕ → Bool) (place : ℕ) (r : Partial) : Type 0 where
  pub had : (x : ℕ) (b : Bool) → marked x ≡ true → made (take place entries) x ≡ Some b → r x ≡ Some b
  pub assumed : (k : ℕ) (e : Entry) → place ≤ k → slice_get entries k ≡ Some e → e.reason ≡ Assumed → r e.lit.var ≡ Some (not e.lit.neg)
  pub still_open : (k : ℕ) (e : Entry) (number : ℕ) → place ≤ k → slice_get entries k ≡ Some e → e.reason ≡ Clause number → r e.lit.var ≡ None

abbrev pub HintsFrom : List (List Lit) → List Entry → (ℕ → Bool) → ℕ → List ℕ → Type 0
HintsFrom known entries marked place hints = (r : Partial) → Suits entries marked place r → Refutes known hints r

-- each variable of the clause is marked
abbrev pub MarksAll : (ℕ → Bool) → List Lit → Type 0
MarksAll marked clause = (l : Lit) → Occurs l clause → marked l.var ≡ true

abbrev pub MarksMore : (ℕ → Bool) → (ℕ → Bool) → Type 0
MarksMore old new = (x : ℕ) → old x ≡ true → new x ≡ true

-- a stamp for each variable, and the one that marks
pub record MarkSet : Type 0 where
  pub stamp : ℕ
  pub stamps : List ℕ

abbrev pub is_stamped : ℕ → Option ℕ → Bool
is_stamped stamp None = false
is_stamped stamp (Some found) = found == stamp

abbrev pub marked : MarkSet → ℕ → Bool
marked marks x = is_stamped marks.stamp (slice_get marks.stamps x)

-- each variable of the clause of this number is marked
abbrev pub MarksClause : (ℕ → Bool) → List (List Lit) → ℕ → Type 0
MarksClause marked known number = (clause : List Lit) → slice_get known number ≡ Some clause → MarksAll marked clause

-- the clause that made the literal of a marked entry true; none, where it was assumed or isn't marked
abbrev pub IsMarkedReason : (ℕ → Bool) → Entry → Option ℕ → Type 0
IsMarkedReason marked e (Some number) = e.reason ≡ Clause number
IsMarkedReason marked e None = (e.reason ≡ Assumed) ⊎ (marked e.lit.var ≡ false)
