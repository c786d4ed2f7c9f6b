-- What is kept true of clauses and steps while propagation goes on.
use Rattle.std.specs.Prelude.{◌≡◌, ℕ, ◌⊎◌, List, [], take, Some}
use Rattle.std.specs.List.{slice_get}
use Rattle.wb_gate.specs.declared.gates.Lit.{Lit}
use Rattle.wb_gate.specs.Circuit.{variable}
use Rattle.wb_derive.specs.Partial.{Partial, IsOpen, Occurs, AreFalseBut}
use Rattle.wb_solve.specs.declared.trail.Entry.{Entry}
use Rattle.wb_solve.specs.declared.trail.Reason.TheVariants.{Assumed}
use Rattle.wb_solve.specs.Trails.{Holds, made}

-- where all literals but one are false in p, that one is true in q
abbrev pub IsGuarded : Partial → Partial → List Lit → Type 0
IsGuarded p q clause = (l : Lit) → Occurs l clause → AreFalseBut l p clause → Holds q l

abbrev pub AreGuarded : List (List Lit) → Partial → Partial → Type 0
AreGuarded clauses p q = (k : ℕ) (clause : List Lit) → slice_get clauses k ≡ Some clause → IsGuarded p q clause

-- none is empty
abbrev pub NoneBlank : List (List Lit) → Type 0
NoneBlank clauses = (k : ℕ) → slice_get clauses k ≡ Some [] → ⊥

-- at each assumption the clauses were guarded
abbrev pub AreSettled : List (List Lit) → List Entry → Type 0
AreSettled clauses entries = (k : ℕ) (e : Entry) → slice_get entries k ≡ Some e → e.reason ≡ Assumed → AreGuarded clauses (made (take k entries)) (made (take k entries))

-- a literal of the step is true
abbrev pub IsHeld : Partial → List Lit → Type 0
IsHeld p step = (l : Lit) × Occurs l step × Holds p l

-- the step names the variable, and another one that has no value
abbrev pub Waits : Partial → ℕ → List Lit → Type 0
Waits p x step = Occurs (variable x) step × ((l : Lit) × Occurs l step × (l.var ≡ x → ⊥) × IsOpen p l)

-- each step is true, and at each assumption it was, or it named the variable and another one without a value
pub record AreHeld (steps : List (List Lit)) (entries : List Entry) : Type 0 where
  pub now : (j : ℕ) (step : List Lit) → slice_get steps j ≡ Some step → IsHeld (made entries) step
  pub earlier : (k : ℕ) (e : Entry) (j : ℕ) (step : List Lit) → slice_get entries k ≡ Some e → e.reason ≡ Assumed → slice_get steps j ≡ Some step → IsHeld (made (take k entries)) step ⊎ Waits (made (take k entries)) e.lit.var step
