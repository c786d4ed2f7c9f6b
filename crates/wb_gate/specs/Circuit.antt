-- Circuits: input variables, gates over earlier variables, and a goal. An assignment gives each variable a truth value.
use Rattle.std.specs.Prelude.{◌≡◌, ℕ, ◌+◌, ◌<◌, ◌≤◌, Bool, true, false, not, ◌&&◌, ◌||◌, if◌then◌else◌, List, length, Some}
use Rattle.std.specs.List.{slice_get}
use Rattle.wb_gate.specs.declared.gates.Lit.{Lit}
use Rattle.wb_gate.specs.declared.gates.Gate.{Gate}
use Rattle.wb_gate.specs.declared.gates.Gate.TheVariants.{And, Xor, Mux, Maj}
use Rattle.wb_gate.specs.declared.gates.Goal.{Goal}
use Rattle.wb_gate.specs.declared.gates.Goal.TheVariants as goal

-- so many input variables, the gates in order, at most so many of them, and the goal
pub record Circuit : Type 0 where
  pub inputs : ℕ
  pub limit : ℕ
  pub gates : List Gate
  pub goal : Goal

-- a truth value for each variable
abbrev pub Assignment : Type 0
Assignment = ℕ → Bool

-- the number of the variables, and so that of the next gate's
abbrev pub variables : Circuit → ℕ
variables c = c.inputs + length c.gates

-- the truth value of a literal: that of its variable, or the other one
abbrev pub lit_value : Assignment → Lit → Bool
lit_value v l = if l.neg then not (v l.var) else v l.var

-- the literal that is true where this one is false
abbrev pub minus : Lit → Lit
minus l = record { var = l.var; neg = not l.neg }

-- a variable as a literal
abbrev pub variable : ℕ → Lit
variable n = record { var = n; neg = false }

-- the truth value of a gate: both; just one; the second or the third by the first; two of the three at least
abbrev pub xor : Bool → Bool → Bool
xor true b = not b
xor false b = b

abbrev pub gate_value : Assignment → Gate → Bool
gate_value v (And x y) = lit_value v x && lit_value v y
gate_value v (Xor x y) = xor (lit_value v x) (lit_value v y)
gate_value v (Mux c x y) = if lit_value v c then lit_value v x else lit_value v y
gate_value v (Maj x y z) =
    (lit_value v x && lit_value v y) || (lit_value v x && lit_value v z)
    || (lit_value v y && lit_value v z)

-- the gate's literals name variables below n
abbrev pub NamesBelow : ℕ → Gate → Type 0
NamesBelow n (And x y) = (x.var < n) × (y.var < n)
NamesBelow n (Xor x y) = (x.var < n) × (y.var < n)
NamesBelow n (Mux c x y) = (c.var < n) × (x.var < n) × (y.var < n)
NamesBelow n (Maj x y z) = (x.var < n) × (y.var < n) × (z.var < n)

-- the goal names a variable below n, where it is a literal
abbrev pub GoalBelow : ℕ → Goal → Type 0
GoalBelow n (goal.Lit l) = l.var < n
GoalBelow n goal.Never = Unit {0}
GoalBelow n goal.Always = Unit {0}

-- each gate names variables before its own, and there are no more gates than the limit
pub record IsCircuit (c : Circuit) : Type 0 where
  pub earlier : (k : ℕ) (gate : Gate) → slice_get c.gates k ≡ Some gate → NamesBelow (c.inputs + k) gate
  pub goal_below : GoalBelow (variables c) c.goal
  pub few : length c.gates ≤ c.limit

-- the assignment gives each gate's variable the gate's value
pub record Obeys (v : Assignment) (c : Circuit) : Type 0 where
  pub at : (k : ℕ) (gate : Gate) → slice_get c.gates k ≡ Some gate → v (c.inputs + k) ≡ gate_value v gate
