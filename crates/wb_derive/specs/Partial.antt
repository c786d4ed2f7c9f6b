-- Assignments of some of the variables, and what a clause is under one.
use Rattle.std.specs.Prelude.{◌≡◌, ℕ, Bool, not, ◌==◌, if◌then◌else◌, ◌⊎◌, List, [], ◌∷◌, Option, Some, None}
use Rattle.wb_gate.specs.declared.gates.Lit.{Lit}
use Rattle.wb_gate.specs.Circuit.{minus}

-- a truth value for some of the variables
abbrev pub Partial : Type 0
Partial = ℕ → Option Bool

-- no variable has a value
abbrev pub nothing : Partial
nothing = λ _. None

-- a literal is made true
abbrev pub assume : Partial → Lit → Partial
assume p l = λ x. if x == l.var then Some (not l.neg) else p x

-- all literals of a clause are made false
abbrev pub refute : List Lit → Partial → Partial
refute [] p = p
refute (l ∷ ls) p = refute ls (assume p (minus l))

-- a literal is false where its variable has the other value, and open where it has none
abbrev pub IsFalse : Partial → Lit → Type 0
IsFalse p l = p l.var ≡ Some l.neg

abbrev pub IsOpen : Partial → Lit → Type 0
IsOpen p l = p l.var ≡ None

-- a clause is falsified where all its literals are false
abbrev pub IsFalsified : Partial → List Lit → Type 0
IsFalsified p [] = Unit {0}
IsFalsified p (l ∷ ls) = IsFalse p l × IsFalsified p ls

-- the literal stands in the clause
abbrev pub Occurs : Lit → List Lit → Type 0
Occurs l [] = ⊥
Occurs l (m ∷ ms) = (m ≡ l) ⊎ Occurs l ms

-- each literal of the clause is this one, or false
abbrev pub AreFalseBut : Lit → Partial → List Lit → Type 0
AreFalseBut l p [] = Unit {0}
AreFalseBut l p (m ∷ ms) = ((m ≡ l) ⊎ IsFalse p m) × AreFalseBut l p ms

-- a clause is unit where one literal of it is open, and all others are false
pub record IsUnit (p : Partial) (clause : List Lit) (l : Lit) : Type 0 where
  pub there : Occurs l clause
  pub still_open : IsOpen p l
  pub others : AreFalseBut l p clause
