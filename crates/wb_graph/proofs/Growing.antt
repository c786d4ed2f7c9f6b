-- What is right of a graph stays right when a node is added.
use Rattle.std.proofs.Common.{◌≡◌, ℕ, ◌<◌, Bool, true, ◌==◌, List, Option, Some, None, length, slice_get, refl, sym, ap, ◌∙◌, arith, eqb, inl, inr}
use Rattle.std.specs.Prelude.{IfSome}
use Rattle.std.specs.Int.{bit_at}
use Rattle.std.proofs.lemmas.Option.{slice_get_within, slice_get_cases}
use Rattle.wb_diagram.specs.declared.nodes.Diagram.{Diagram}
use Rattle.wb_diagram.specs.Forest.{Forest}
use Rattle.wb_term.specs.declared.nodes.WordId.{WordId}
use Rattle.wb_term.specs.declared.nodes.BitId.{BitId}
use Rattle.wb_term.specs.declared.nodes.Node.{Node}
use Rattle.wb_term.specs.declared.nodes.Node.TheVariants.{Word, Bit}
use Rattle.wb_term.specs.Inputs.{Assignment, IsAssignment}
use Rattle.wb_term.specs.Nodes.{children, is_input, Each}
use Rattle.wb_term.specs.Terms.{Terms, holds_word, holds_bit}
use Rattle.wb_term.specs.Values.{value, IsWord, IsBit}
use Rattle.wb_term.specs.Under.{IsUnder, Itself, Below, HasOnly}
use Rattle.wb_term.specs.Growth.{Grown, IsInterned}
use Rattle.wb_term.proofs.Growth.{value-interned}
use Rattle.wb_term.proofs.Placed.{Each-map}
use Rattle.wb_term.proofs.Under.{HasOnly-children}
use Rattle.wb_graph.specs.declared.places.Places.{Places}
use Rattle.wb_graph.specs.declared.summaries.Function.{Function}
use Rattle.wb_graph.specs.declared.summaries.Function.TheVariants as function
use Rattle.wb_graph.specs.declared.summaries.Summary.{Summary}
use Rattle.wb_graph.specs.Worlds.{IsWorld}
use Rattle.wb_graph.specs.Places.{ArePlaces, AreNodePlaces}
use Rattle.wb_graph.specs.Functions.{Board, IsWordFunction, IsBitFunction, IsFunctionOf, IsSummary, AreRight}

-- what stands under a number stands under it in a grown graph
under-grown : (g h : Terms) → Grown g h → (j k : ℕ) → IsUnder g j k → IsUnder h j k
under-grown g h grown _ _ (Itself j k e) = Itself j k e
under-grown g h grown _ _ (Below j k c n at among u) = Below j k c n (grown.nodes k n at) among (under-grown g h grown j c u)

-- a test of what stands under a number in a grown graph holds in the old one
pub HasOnly-shrunk : (g h : Terms) → Grown g h → (allowed : Node → Bool) (k : ℕ) → HasOnly h allowed k → HasOnly g allowed k
HasOnly-shrunk g h grown allowed k only = record { passes = λ j n u at input. only.passes j n (under-grown g h grown j k u) (grown.nodes j n at) input }

-- a test of what stands under a node holds in a grown graph
pub HasOnly-grown : (g h : Terms) → Grown g h → (allowed : Node → Bool) (k : ℕ) → k < length g.nodes → HasOnly g allowed k → HasOnly h allowed k
HasOnly-grown g h grown allowed k below only =
    elim (slice_get_cases g.nodes k).1 [ inl here ↦ by here.0 here.2 | inr past ↦ absurd (omega (arith, below, past.0)) ] where
      by : (n : Node) → slice_get g.nodes k ≡ Some n → HasOnly h allowed k
      by (Word n) at = grown.word_inputs allowed (record { number = k }) (ap holds_word at) only
      by (Bit n) at = grown.bit_inputs allowed (record { number = k }) (ap holds_bit at) only

pub ArePlaces-grown : (g h : Terms) → Grown g h → (k : ℕ) (p : Places) → k < length g.nodes → ArePlaces g k p → ArePlaces h k p
ArePlaces-grown g h grown k p below are = record {
  only = λ known allowed allows. HasOnly-grown g h grown allowed k below (are.only known allowed allows);
  each = λ allowed only. are.each allowed (HasOnly-shrunk g h grown allowed k only);
}

-- what stands under a node that was added is what stands under the node
pub ArePlaces-added : (g h : Terms) → Grown g h → (k : ℕ) (n : Node) (p : Places) → slice_get h.nodes k ≡ Some n →
    ((allowed : Node → Bool) → (is_input n ≡ true → allowed n ≡ true) → Each (HasOnly g allowed) (children n) → HasOnly h allowed k) →
    AreNodePlaces g n p → ArePlaces h k p
ArePlaces-added g h grown k n p at inputs are = record {
  only = λ known allowed allows. inputs allowed (are.itself known allowed allows) (are.only known allowed allows);
  each = λ allowed only. are.each allowed
      (only.passes k n (Itself k k refl) at)
      (Each-map _ _ (HasOnly-shrunk g h grown allowed) (children n) (HasOnly-children h allowed k n at only));
}

module _ (g h : Terms) (n : Node) (number : ℕ) (interned : IsInterned g h n number) (grown : Grown g h) where
  -- a world of a grown graph is one of the old graph
  pub IsWorld-shrunk : (inputs : Assignment) (w : ℕ → Bool) → IsWorld inputs h w → IsWorld inputs g w
  IsWorld-shrunk inputs w is = record {
    byte_by_byte = is.byte_by_byte;
    side_by_side = is.side_by_side;
    own = λ k b below in_bits. is.own k b (omega (arith, below, grown.longer)) in_bits ∙ ap (λ (v : ℕ). eqb (bit_at v b) 1) (value-interned g h n number interned inputs k below);
  }

  IsWordFunction-grown : (f : Forest) (meaning later : Assignment → ℕ) (ds : List Diagram) → ((inputs : Assignment) → IsAssignment inputs → later inputs ≡ meaning inputs) →
      IsWordFunction g f meaning ds → IsWordFunction h f later ds
  IsWordFunction-grown f meaning later ds same is = record {
    there = is.there;
    value = λ inputs assigned w world. is.value inputs assigned w (IsWorld-shrunk inputs w world) ∙ sym (same inputs assigned);
  }

  IsBitFunction-grown : (f : Forest) (meaning later : Assignment → Bool) (d : Diagram) → ((inputs : Assignment) → IsAssignment inputs → later inputs ≡ meaning inputs) →
      IsBitFunction g f meaning d → IsBitFunction h f later d
  IsBitFunction-grown f meaning later d same is = record {
    there = is.there;
    value = λ inputs assigned w world. is.value inputs assigned w (IsWorld-shrunk inputs w world) ∙ sym (same inputs assigned);
  }

  -- a node that was added is the function that it was before, where one is known
  pub word_function-added : (f : Forest) (meaning : Assignment → ℕ) (id : WordId) → IsWord h id meaning → (o : Option (List Diagram)) →
      IfSome o (IsWordFunction g f meaning) → IfSome o (IsWordFunction h f (λ inputs. value inputs h id.number))
  word_function-added f meaning id word None is = is
  word_function-added f meaning id word (Some ds) is = IsWordFunction-grown f meaning (λ inputs. value inputs h id.number) ds word.value is

  pub bit_function-added : (f : Forest) (meaning : Assignment → Bool) (id : BitId) → IsBit h id meaning → (o : Option Diagram) →
      IfSome o (IsBitFunction g f meaning) → IfSome o (IsBitFunction h f (λ inputs. value inputs h id.number == 1))
  bit_function-added f meaning id bit None is = is
  bit_function-added f meaning id bit (Some d) is = IsBitFunction-grown f meaning (λ inputs. value inputs h id.number == 1) d bit.value is

  IsFunctionOf-grown : (f : Forest) (k : ℕ) → k < length g.nodes → (s : Function) → IsFunctionOf g f k s → IsFunctionOf h f k s
  IsFunctionOf-grown f k below (function.Word ds) is = (
    grown.words (record { number = k }) is.0,
    IsWordFunction-grown f (λ inputs. value inputs g k) (λ inputs. value inputs h k) ds (λ inputs assigned. value-interned g h n number interned inputs k below) is.1,
  )
  IsFunctionOf-grown f k below (function.Bit d) is = (
    grown.bits (record { number = k }) is.0,
    IsBitFunction-grown f (λ inputs. value inputs g k == 1) (λ inputs. value inputs h k == 1) d
        (λ inputs assigned. ap (λ (v : ℕ). eqb v 1) (value-interned g h n number interned inputs k below)) is.1,
  )

  IsSummary-grown : (f : Forest) (k : ℕ) (s : Summary) → k < length g.nodes → IsSummary g f k s → IsSummary h f k s
  IsSummary-grown f k s below is = record {
    places = ArePlaces-grown g h grown k s.places below is.places;
    function = by s.function is.function;
  } where
    by : (o : Option Function) → IfSome o (IsFunctionOf g f k) → IfSome o (IsFunctionOf h f k)
    by None is = is
    by (Some s) is = IsFunctionOf-grown f k below s is

  pub AreRight-grown : (b : Board) → AreRight g b → AreRight h b
  AreRight-grown b are = record {
    few = omega (arith, are.few, grown.longer);
    at = λ k s at. IsSummary-grown b.forest k s (omega (arith, are.few, slice_get_within b.summaries k s at)) (are.at k s at);
  }
