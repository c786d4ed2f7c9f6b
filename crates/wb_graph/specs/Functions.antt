-- What is known of the nodes of a graph: the bytes that stand under each, and what its bits are as diagrams.
use Rattle.std.specs.Prelude.{◌≡◌, ℕ, ◌≤◌, ◌==◌, Bool, true, List, Some, IfSome, length, slice_get}
use Rattle.wb_diagram.specs.declared.nodes.Diagram.{Diagram}
use Rattle.wb_diagram.specs.Forest.{Forest, HasDiagram}
use Rattle.wb_diagram.specs.Growth.{Grown}
use Rattle.wb_diagram.specs.Values.{value as diagram_value}
use Rattle.wb_vector.specs.declared.bitwise.Operation.{Operation}
use Rattle.wb_vector.specs.Operations.{on_numbers}
use Rattle.wb_vector.specs.Vectors.{number, AreThere}
use Rattle.wb_term.specs.declared.nodes.WordId.{WordId}
use Rattle.wb_term.specs.Inputs.{Assignment, IsAssignment}
use Rattle.wb_term.specs.Terms.{Terms, holds_word, holds_bit}
use Rattle.wb_term.specs.Values.{value, word_value}
use Rattle.wb_graph.specs.declared.summaries.Function.{Function}
use Rattle.wb_graph.specs.declared.summaries.Function.TheVariants.{Word, Bit}
use Rattle.wb_graph.specs.declared.summaries.Summary.{Summary}
use Rattle.wb_graph.specs.Worlds.{IsWorld}
use Rattle.wb_graph.specs.Places.{ArePlaces}

-- The diagrams are there, and stand for this number whatever the inputs are.
pub record IsWordFunction (g : Terms) (f : Forest) (meaning : Assignment → ℕ) (ds : List Diagram) : Type 0 where
  pub there : AreThere f ds
  pub value : (inputs : Assignment) → IsAssignment inputs → (w : ℕ → Bool) → IsWorld inputs g w → number w f ds ≡ meaning inputs

pub record IsBitFunction (g : Terms) (f : Forest) (meaning : Assignment → Bool) (d : Diagram) : Type 0 where
  pub there : HasDiagram f d
  pub value : (inputs : Assignment) → IsAssignment inputs → (w : ℕ → Bool) → IsWorld inputs g w → diagram_value w f d ≡ meaning inputs

-- the node is of the function's sort, and has its value
abbrev pub IsFunctionOf : Terms → Forest → ℕ → Function → Type 0
IsFunctionOf g f k (Word ds) = (holds_word (slice_get g.nodes k) ≡ true) × IsWordFunction g f (λ inputs. value inputs g k) ds
IsFunctionOf g f k (Bit d) = (holds_bit (slice_get g.nodes k) ≡ true) × IsBitFunction g f (λ inputs. value inputs g k == 1) d

pub record IsSummary (g : Terms) (f : Forest) (k : ℕ) (s : Summary) : Type 0 where
  pub places : ArePlaces g k s.places
  pub function : IfSome s.function (IsFunctionOf g f k)

-- the diagrams, and what is known of each node in order of number
pub record Board : Type 0 where
  pub forest : Forest
  pub summaries : List Summary

-- all that is known is right
pub record AreRight (g : Terms) (b : Board) : Type 0 where
  pub few : length b.summaries ≤ length g.nodes
  pub at : (k : ℕ) (s : Summary) → slice_get b.summaries k ≡ Some s → IsSummary g b.forest k s

-- all that is known is right, as one fact that isn't opened
unfoldable pub IsInformed : Terms → Board → Type 0
IsInformed g b = AreRight g b

-- all that is known is right of some graph
abbrev pub IsBoard : Board → Type 0
IsBoard b = (g : Terms) × AreRight g b

-- The diagrams are there, and stand for what the operation makes of two words whatever the inputs are.
pub record IsCombined (g : Terms) (old new : Forest) (operation : Operation) (x y : WordId) (ds : List Diagram) : Type 0 where
  pub there : AreThere new ds
  pub value : (inputs : Assignment) → IsAssignment inputs → (w : ℕ → Bool) → IsWorld inputs g w →
      number w new ds ≡ on_numbers w old operation (word_value inputs g x) (word_value inputs g y)

-- Diagrams were made, and what is known stayed.
pub record Keeps (old new : Board) : Type 0 where
  pub grown : Grown old.forest new.forest
  pub summaries : new.summaries ≡ old.summaries
  pub right : (g : Terms) → AreRight g old → AreRight g new
