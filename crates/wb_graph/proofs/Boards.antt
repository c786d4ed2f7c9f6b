-- What stays of a board when diagrams are made, and what is right of a graph.
use Rattle.std.proofs.Common.{◌≡◌, ◌<◌, ◌⊎◌, ℕ, zero, suc, Bool, true, false, Option, List, [], ◌∷◌, ◌++◌, Some, None, IfSome, length, slice_get, refl, sym, ap, ◌∙◌, subst, inl, inr, arith, length-append}
use Rattle.wb_diagram.specs.declared.nodes.Diagram.{Diagram}
use Rattle.wb_diagram.specs.Forest.{Forest}
use Rattle.wb_diagram.specs.Growth.{Grown}
use Rattle.wb_diagram.specs.Values.{value as diagram_value}
use Rattle.wb_vector.specs.Vectors.{number}
use Rattle.wb_vector.proofs.Words.{there_kept, number_kept}
use Rattle.wb_term.specs.Inputs.{Assignment, IsAssignment}
use Rattle.wb_term.specs.Terms.{Terms}
use Rattle.wb_term.specs.declared.nodes.Node.{Node}
use Rattle.wb_term.specs.Under.{HasOnly}
use Rattle.wb_graph.specs.declared.places.Places.{Places}
use Rattle.wb_graph.specs.Places.{has_byte, AllowsBytes}
use Rattle.wb_graph.specs.declared.summaries.Function.{Function}
use Rattle.wb_graph.specs.declared.summaries.Function.TheVariants.{Word, Bit}
use Rattle.wb_graph.specs.declared.summaries.Summary.{Summary}
use Rattle.wb_graph.specs.Functions.{Board, IsWordFunction, IsBitFunction, IsFunctionOf, IsSummary, AreRight, Keeps}
use Rattle.wb_graph.proofs.Worlds.{world_exists}

-- the board of some diagrams and of what is known of nodes
abbrev board : Forest → List Summary → Board
board f ss = record { forest = f; summaries = ss }

word_kept : (g : Terms) (old new : Forest) (m : Assignment → ℕ) (ds : List Diagram) → Grown old new → IsWordFunction g old m ds → IsWordFunction g new m ds
word_kept g old new m ds grown is = record {
  there = there_kept old new ds grown is.there;
  value = λ inputs ok w world. number_kept w old new ds grown is.there ∙ is.value inputs ok w world;
}

bit_kept : (g : Terms) (old new : Forest) (m : Assignment → Bool) (d : Diagram) → Grown old new → IsBitFunction g old m d → IsBitFunction g new m d
bit_kept g old new m d grown is = record {
  there = grown.diagrams d is.there;
  value = λ inputs ok w world. grown.values w d is.there ∙ is.value inputs ok w world;
}

function_kept : (g : Terms) (old new : Forest) (k : ℕ) (o : Option Function) → Grown old new → IfSome o (IsFunctionOf g old k) → IfSome o (IsFunctionOf g new k)
function_kept g old new k None grown is = is
function_kept g old new k (Some (Word ds)) grown is = (is.0, word_kept g old new _ ds grown is.1)
function_kept g old new k (Some (Bit d)) grown is = (is.0, bit_kept g old new _ d grown is.1)

right_kept : (old new : Forest) (ss : List Summary) → Grown old new → Keeps (board old ss) (board new ss)
right_kept old new ss grown = record {
  grown = grown;
  summaries = refl;
  right = λ g right. record {
    few = right.few;
    at = λ k s at. record {
      places = (right.at k s at).places;
      function = function_kept g old new k s.function grown (right.at k s at).function;
    };
  };
}

-- what is right stays right when the diagrams grow
pub keeps : (b : Board) (old new : Forest) (ss : List Summary) → board old ss ≡ b → Grown old new → Keeps b (board new ss)
keeps b old new ss same grown = subst (λ (c : Board). Keeps c (board new ss)) same (right_kept old new ss grown)

-- what is known of a node is right of it
pub function_found : (b : Board) (k : ℕ) (s : Summary) (f : Function) → slice_get b.summaries k ≡ Some s → s.function ≡ Some f →
    (g : Terms) → AreRight g b → IsFunctionOf g b.forest k f
function_found b k s f at is g right = subst (λ (o : Option Function). IfSome o (IsFunctionOf g b.forest k)) is (right.at k s at).function

-- and only the bytes under it stand there
pub only_within : (b : Board) (k : ℕ) (s : Summary) (p : Places) → slice_get b.summaries k ≡ Some s → s.places.cells ≡ false →
    ((place : ℕ) → has_byte s.places place ≡ true → has_byte p place ≡ true) → (g : Terms) → AreRight g b →
    (allowed : Node → Bool) → AllowsBytes allowed p → HasOnly g allowed k
only_within b k s p at cells bytes g right allowed allows = (right.at k s at).places.only cells allowed (λ place has. allows place (bytes place has))

pushed_cases : (ss : List Summary) (s : Summary) (k : ℕ) (t : Summary) → slice_get (ss ++ s ∷ []) k ≡ Some t → (slice_get ss k ≡ Some t) ⊎ ((k ≡ length ss) × (s ≡ t))
pushed_cases [] s zero t h = inr (refl, cc)
pushed_cases [] s (suc k) t h = cc
pushed_cases (x ∷ ss) s zero t h = inl h
pushed_cases (x ∷ ss) s (suc k) t h = elim (pushed_cases ss s k t h) [ inl old ↦ inl old | inr new ↦ inr (ap suc new.0, new.1) ]

-- what is right of the next node is added
pushed : (g : Terms) (b : Board) (ss : List Summary) (s : Summary) → ss ≡ b.summaries ++ s ∷ [] → AreRight g b → length b.summaries < length g.nodes →
    IsSummary g b.forest (length b.summaries) s → AreRight g (board b.forest ss)
pushed g b ss s same right within is = subst (λ (l : List Summary). AreRight g (board b.forest l)) (sym same) (record {
  few = omega (arith, within, length-append b.summaries (s ∷ []));
  at = λ k t at. elim (pushed_cases b.summaries s k t at) [
    | inl old ↦ right.at k t old
    | inr new ↦ subst (IsSummary g b.forest k) new.1 (subst (λ j. IsSummary g b.forest j s) (sym new.0) is)
  ];
})

pub entered : (b : Board) (f : Forest) (old ss : List Summary) (number : ℕ) (s : Summary) → board f old ≡ b → ss ≡ old ++ s ∷ [] → number ≡ length old →
    (g : Terms) → AreRight g b → number < length g.nodes → IsSummary g b.forest number s → AreRight g (board f ss)
entered b f old ss number s same more next g =
    subst (λ (c : Board). AreRight g c → number < length g.nodes → IsSummary g c.forest number s → AreRight g (board f ss)) same
    (λ right within is. pushed g (board f old) ss s more right (subst (λ k. k < length g.nodes) next within) (subst (λ k. IsSummary g f k s) next is))

-- A constant function has the constant for its meaning, since some variables stand for any inputs.
abbrev pub KnownNumber : Forest → List Diagram → Option ℕ → Type 0
KnownNumber f ds o = IfSome o (λ n. (g : Terms) (m : Assignment → ℕ) → IsWordFunction g f m ds → (inputs : Assignment) → IsAssignment inputs → m inputs ≡ n)

pub known_number : (f : Forest) (ds : List Diagram) (o : Option ℕ) → IfSome o (λ n. (v : ℕ → Bool) → number v f ds ≡ n) → KnownNumber f ds o
known_number f ds None known = known
known_number f ds (Some n) known = λ g m is inputs ok. let world = world_exists inputs g in sym (is.value inputs ok world.0 world.1) ∙ known world.0

abbrev pub KnownValue : Forest → Diagram → Option Bool → Type 0
KnownValue f d o = IfSome o (λ b. (g : Terms) (m : Assignment → Bool) → IsBitFunction g f m d → (inputs : Assignment) → IsAssignment inputs → m inputs ≡ b)

pub known_value : (f : Forest) (d : Diagram) (o : Option Bool) → IfSome o (λ b. (v : ℕ → Bool) → diagram_value v f d ≡ b) → KnownValue f d o
known_value f d None known = known
known_value f d (Some b) known = λ g m is inputs ok. let world = world_exists inputs g in sym (is.value inputs ok world.0 world.1) ∙ known world.0
