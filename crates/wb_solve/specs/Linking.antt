-- From a variable to the gates that name it, the last one first.
use Rattle.std.specs.Prelude.{◌≡◌, ℕ, ◌<◌, ◌≤◌, ◌⊎◌, List, length, Some}
use Rattle.std.specs.List.{slice_get}
use Rattle.wb_gate.specs.declared.gates.Gate.{Gate}
use Rattle.wb_gate.specs.declared.gates.Gate.TheVariants.{And, Xor, Mux, Maj}
use Rattle.wb_gate.specs.Circuit.{Circuit, variables}
use Rattle.wb_gate.specs.Clauses.{clauses_before}
use Rattle.wb_solve.specs.declared.links.Operands.{Operands}
use Rattle.wb_solve.specs.declared.links.Link.{Link}
use Rattle.wb_solve.specs.declared.links.Links.{Links}

-- the literals of a gate
abbrev pub operands : Gate → Operands
operands (And x y) = record { first = x; second = y; third = y }
operands (Xor x y) = record { first = x; second = y; third = y }
operands (Mux x y z) = record { first = x; second = y; third = z }
operands (Maj x y z) = record { first = x; second = y; third = z }

-- one of them names the variable
abbrev pub Names : ℕ → Operands → Type 0
Names x o = (o.first.var ≡ x) ⊎ (o.second.var ≡ x) ⊎ (o.third.var ≡ x)

abbrev pub AreBelow : ℕ → Operands → Type 0
AreBelow n o = (o.first.var < n) × (o.second.var < n) × (o.third.var < n)

-- no gate names the variable from the end to the bound
pub record IsFree (gates : List Gate) (x end bound : ℕ) : Type 0 where
  pub within : end ≤ bound
  pub none : (k : ℕ) (gate : Gate) → end ≤ k → k < bound → slice_get gates k ≡ Some gate → Names x (operands gate) → ⊥

-- what is kept of the gate of a number
pub record IsLink (c : Circuit) (number : ℕ) (o : Operands) (link : Link) : Type 0 where
  pub clause : link.clause ≡ clauses_before c number
  pub first : IsFree c.gates o.first.var link.first number
  pub second : IsFree c.gates o.second.var link.second number
  pub third : IsFree c.gates o.third.var link.third number

-- the first so many gates are linked
pub record AreLinked (c : Circuit) (count : ℕ) (links : Links) : Type 0 where
  pub variable_count : length links.ends.items ≡ variables c
  pub gate_count : length links.gates.items ≡ count
  pub clause_count : links.clauses ≡ clauses_before c count
  pub ends : (x end : ℕ) → slice_get links.ends.items x ≡ Some end → IsFree c.gates x end count
  pub each : (k : ℕ) (gate : Gate) (link : Link) → slice_get c.gates k ≡ Some gate → slice_get links.gates.items k ≡ Some link → IsLink c k (operands gate) link

-- the variables that are named have this end now
pub record IsEnd (old new : List ℕ) (o : Operands) (end : ℕ) : Type 0 where
  pub named : (x : ℕ) → Names x o → x < length old → slice_get new x ≡ Some end
  pub others : (x : ℕ) → (Names x o → ⊥) → slice_get new x ≡ slice_get old x
  pub same_length : length new ≡ length old
