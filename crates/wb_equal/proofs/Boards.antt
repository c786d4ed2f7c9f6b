-- What stays of a board when diagrams are made, and what is known of its variables.
use Rattle.std.proofs.Common.{◌≡◌, ℕ, ◌<◌, ◌≤◌, arith, List, length, Bool, true, false, not, ◌&&◌, ◌||◌, if◌then◌else◌, Option, Some, None, IfSome, slice_get, refl, sym, ap, ◌∙◌}
use Rattle.wb_diagram.specs.declared.nodes.Diagram.{Diagram}
use Rattle.wb_diagram.specs.Forest.{Forest}
use Rattle.wb_diagram.specs.Growth.{Grown}
use Rattle.wb_diagram.specs.Values.{value, IsFunction}
use Rattle.wb_gate.specs.declared.gates.Lit.{Lit}
use Rattle.wb_gate.specs.declared.gates.Gate.{Gate}
use Rattle.wb_gate.specs.Circuit.{Circuit, Assignment, variables, variable, gate_value}
use Rattle.wb_gate.specs.Growth.{Extends, IsLit}
use Rattle.wb_equal.specs.declared.functions.Function.{Function}
use Rattle.wb_equal.specs.declared.functions.Known.{Known}
use Rattle.wb_equal.specs.Order.{named}
use Rattle.wb_equal.specs.Functions.{Board, HasFunction, IsBoard, Says, AreRight, AreOf, IsDiagramOf, IsFunctionOf, IsKnownOf, Keeps}

-- the board with other diagrams
abbrev pub with_forest : Board → Forest → Board
with_forest b f = record { forest = f; names = b.names; variables = b.variables }

has_grown : (f g : Forest) (o : Option Function) → Grown f g → IfSome o (HasFunction f) → IfSome o (HasFunction g)
has_grown f g None grown has = has
has_grown f g (Some h) grown has = record { yes = grown.diagrams _ has.yes; no = grown.diagrams _ has.no }

says_grown : (f g : Forest) (v : Assignment) (b : Bool) (o : Option Function) → Grown f g → IfSome o (HasFunction f) → IfSome o (Says v f b) → IfSome o (Says v g b)
says_grown f g v b None grown has says = says
says_grown f g v b (Some h) grown has says = record { yes = grown.values v _ has.yes ∙ says.yes; no = grown.values v _ has.no ∙ says.no }

said_before : (f g : Forest) (v : Assignment) (b : Bool) (o : Option Function) → Grown f g → IfSome o (HasFunction f) → IfSome o (Says v g b) → IfSome o (Says v f b)
said_before f g v b None grown has says = says
said_before f g v b (Some h) grown has says = record { yes = sym (grown.values v _ has.yes) ∙ says.yes; no = sym (grown.values v _ has.no) ∙ says.no }

pub board_grows : (b : Board) (f : Forest) → IsBoard b → Grown b.forest f → IsBoard (with_forest b f)
board_grows b f is grown = record {
  there = λ x k at. record { whole = has_grown b.forest f k.whole grown (is.there x k at).whole; taken = has_grown b.forest f k.taken grown (is.there x k at).taken };
}

pub keeps : (b : Board) (f : Forest) → IsBoard b → Grown b.forest f → Keeps b (with_forest b f)
keeps b f is grown = record {
  grown = grown;
  names = refl;
  variables = refl;
  right = λ v right. record {
    at = λ x k at. record {
      whole = says_grown b.forest f (named b.names v) (v x) k.whole grown (is.there x k at).whole (right.at x k at).whole;
      taken = says_grown b.forest f (named b.names v) (v x) k.taken grown (is.there x k at).taken (right.at x k at).taken;
    };
  };
  back = λ v right. record {
    at = λ x k at. record {
      whole = said_before b.forest f (named b.names v) (v x) k.whole grown (is.there x k at).whole (right.at x k at).whole;
      taken = said_before b.forest f (named b.names v) (v x) k.taken grown (is.there x k at).taken (right.at x k at).taken;
    };
  };
}

function_of : (b : Board) (m : Assignment → Bool) (o : Option Function) → IfSome o (HasFunction b.forest) →
    ((v : Assignment) → AreRight v b → IfSome o (Says (named b.names v) b.forest (m v))) → IfSome o (IsFunctionOf b m)
function_of b m None has says = has
function_of b m (Some h) has says = record {
  yes = record { there = has.yes; value = λ v right. (says v right).yes };
  no = record { there = has.no; value = λ v right. (says v right).no };
}

pub known_is : (b : Board) (x : ℕ) (k : Known) → IsBoard b → slice_get b.variables x ≡ Some k → IsKnownOf b (λ v. v x) k
known_is b x k is at = record {
  whole = function_of b (λ v. v x) k.whole (is.there x k at).whole (λ v right. (right.at x k at).whole);
  taken = function_of b (λ v. v x) k.taken (is.there x k at).taken (λ v right. (right.at x k at).taken);
}

pub kept : (old new : Board) (m : Assignment → Bool) (d : Diagram) → Keeps old new → IsDiagramOf old m d → IsDiagramOf new m d
kept old new m d keeps is = record {
  there = keeps.grown.diagrams d is.there;
  value = λ v right. ap (λ (n : List ℕ). value (named n v) new.forest d) keeps.names ∙ keeps.grown.values (named old.names v) d is.there ∙ is.value v (keeps.back v right);
}

-- a choice between two diagrams of known meanings
pub chosen : (old new : Board) (t x y m : Assignment → Bool) (d1 d2 : Diagram) (o : Option Diagram) →
    IfSome o (λ d. (a b : Assignment → Bool) → IsDiagramOf old a d1 → IsDiagramOf old b d2 → IsDiagramOf new (λ v. if t v then a v else b v) d) →
    IsDiagramOf old x d1 → IsDiagramOf old y d2 → ((v : Assignment) → (if t v then x v else y v) ≡ m v) → IfSome o (IsDiagramOf new m)
chosen old new t x y m d1 d2 None is is_x is_y same = is
chosen old new t x y m d1 d2 (Some d) is is_x is_y same = record {
  there = (is x y is_x is_y).there;
  value = λ v right. (is x y is_x is_y).value v right ∙ same v;
}

pub both_is : (a b : Bool) → (if a then b else false) ≡ (a && b)
both_is true b = refl
both_is false b = refl

pub either_is : (a b : Bool) → (if a then true else b) ≡ (a || b)
either_is true b = refl
either_is false b = refl

pub most_is : (a b c : Bool) → (if a then b || c else b && c) ≡ ((a && b) || (a && c) || (b && c))
most_is true true true = refl
most_is true true false = refl
most_is true false true = refl
most_is true false false = refl
most_is false true true = refl
most_is false true false = refl
most_is false false true = refl
most_is false false false = refl

says_meaning : (v : Assignment) (b : Board) (m : Assignment → Bool) (x : ℕ) (o : Option Function) → IfSome o (IsFunctionOf b m) → AreRight v b → v x ≡ m v → IfSome o (Says (named b.names v) b.forest (v x))
says_meaning v b m x None is right same = is
says_meaning v b m x (Some h) is right same = record {
  yes = is.yes.value v right ∙ sym same;
  no = is.no.value v right ∙ ap not (sym same);
}

-- A gate was added, and its variable entered with its function.
pub entered : (c d : Circuit) (before here after : Board) (gate : Gate) (lit : Lit) (o : Option Function) → AreOf c before → Keeps before here →
    IfSome o (IsFunctionOf here (λ v. gate_value v gate)) → lit ≡ variable (variables c) → IsLit d lit (λ v. gate_value v gate) → Extends c d 1 →
    ((n : ℕ) → lit.var < n → length here.variables ≤ n → length after.variables ≤ n) →
    ((v : Assignment) → AreRight v here → IfSome o (Says (named here.names v) here.forest (v lit.var)) → AreRight v after) → AreOf d after
entered c d before here after gate lit o are keeps is lit_is means extends few right = record {
  few = few (variables d) means.there (
      let kept : length here.variables ≡ length before.variables = ap length keeps.variables in
      let there = are.few in
      let longer = extends.longer in
      let inputs = extends.same_inputs in
      omega (arith, kept, there, longer, inputs));
  right = λ v obeys.
      let there = keeps.right v (are.right v (extends.obeys v obeys)) in
      let positive : lit.neg ≡ false = ap (λ (l : Lit). l.neg) lit_is in
      let same : v lit.var ≡ gate_value v gate = sym (ap (λ n. if n then not (v lit.var) else v lit.var) positive) ∙ means.value v obeys in
      right v there (says_meaning v here (λ v. gate_value v gate) lit.var o is there same);
}

-- the diagrams of a variable and of its negation say what the variable for which it stands is
pub own_says : (old here new : Board) (v : Assignment) (x : ℕ) (own : Bool) (d e : Diagram) → Keeps old here → Keeps here new → IsFunction here.forest d (λ w. w x) →
    IsFunction new.forest e (λ w. not (value w here.forest d)) → named old.names v x ≡ own → Says (named new.names v) new.forest own (record { yes = d; no = e })
own_says old here new v x own d e first second is_yes is_no stands =
    let name : named new.names v x ≡ own = ap (λ (n : List ℕ). named n v x) (second.names ∙ first.names) ∙ stands in
    record {
      yes = second.grown.values (named new.names v) d is_yes.there ∙ is_yes.value (named new.names v) ∙ name;
      no = is_no.value (named new.names v) ∙ ap not (is_yes.value (named new.names v) ∙ name);
    }
