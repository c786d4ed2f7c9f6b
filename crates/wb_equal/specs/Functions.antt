-- What the variables of a formula say, as diagrams over these variables, in an order of their own.
use Rattle.std.specs.Prelude.{◌≡◌, ℕ, ◌≤◌, Bool, not, List, Some, IfSome, length, slice_get}
use Rattle.wb_diagram.specs.declared.nodes.Diagram.{Diagram}
use Rattle.wb_diagram.specs.Forest.{Forest, HasDiagram}
use Rattle.wb_diagram.specs.Values.{value}
use Rattle.wb_diagram.specs.Growth.{Grown}
use Rattle.wb_gate.specs.Circuit.{Circuit, Assignment, Obeys, variables}
use Rattle.wb_equal.specs.declared.functions.Function.{Function}
use Rattle.wb_equal.specs.declared.functions.Known.{Known}
use Rattle.wb_equal.specs.Order.{named}

-- the diagrams, which variables theirs stand for, and what is known of each variable in order
pub record Board : Type 0 where
  pub forest : Forest
  pub names : List ℕ
  pub variables : List Known

-- the diagrams of a function and of its negation are there
pub record HasFunction (f : Forest) (g : Function) : Type 0 where
  pub yes : HasDiagram f g.yes
  pub no : HasDiagram f g.no

pub record HasKnown (f : Forest) (k : Known) : Type 0 where
  pub whole : IfSome k.whole (HasFunction f)
  pub taken : IfSome k.taken (HasFunction f)

-- all diagrams that are known of variables are there
pub record IsBoard (b : Board) : Type 0 where
  pub there : (x : ℕ) (k : Known) → slice_get b.variables x ≡ Some k → HasKnown b.forest k

-- the function has this value, under these values of the diagrams' variables
pub record Says (v : Assignment) (f : Forest) (value_is : Bool) (g : Function) : Type 0 where
  pub yes : value v f g.yes ≡ value_is
  pub no : value v f g.no ≡ not value_is

pub record SaysKnown (v : Assignment) (f : Forest) (value_is : Bool) (k : Known) : Type 0 where
  pub whole : IfSome k.whole (Says v f value_is)
  pub taken : IfSome k.taken (Says v f value_is)

-- each variable has the value of what is known of it
pub record AreRight (v : Assignment) (b : Board) : Type 0 where
  pub at : (x : ℕ) (k : Known) → slice_get b.variables x ≡ Some k → SaysKnown (named b.names v) b.forest (v x) k

-- what is known is of variables of a formula, and right under each assignment that obeys it
pub record AreOf (c : Circuit) (b : Board) : Type 0 where
  pub few : length b.variables ≤ variables c
  pub right : (v : Assignment) → Obeys v c → AreRight v b

-- the diagram has this meaning where all that is known is right
pub record IsDiagramOf (b : Board) (meaning : Assignment → Bool) (d : Diagram) : Type 0 where
  pub there : HasDiagram b.forest d
  pub value : (v : Assignment) → AreRight v b → value (named b.names v) b.forest d ≡ meaning v

pub record IsFunctionOf (b : Board) (meaning : Assignment → Bool) (g : Function) : Type 0 where
  pub yes : IsDiagramOf b meaning g.yes
  pub no : IsDiagramOf b (λ v. not (meaning v)) g.no

pub record IsKnownOf (b : Board) (meaning : Assignment → Bool) (k : Known) : Type 0 where
  pub whole : IfSome k.whole (IsFunctionOf b meaning)
  pub taken : IfSome k.taken (IsFunctionOf b meaning)

-- Diagrams were made, and what is known stayed.
pub record Keeps (old new : Board) : Type 0 where
  pub grown : Grown old.forest new.forest
  pub names : new.names ≡ old.names
  pub variables : new.variables ≡ old.variables
  pub right : (v : Assignment) → AreRight v old → AreRight v new
  pub back : (v : Assignment) → AreRight v new → AreRight v old
