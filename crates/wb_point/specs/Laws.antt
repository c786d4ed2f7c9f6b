-- What holds of all states, of all dialogues under inputs and of all questions.
use Rattle.std.specs.Prelude.{◌≡◌, ◌↔◌, ℕ, ◌≤◌, Bool, true, false, Option, Some, List, [], ◌∷◌, ◌++◌, All, length, replicate, slice_get, slice_index}
use Rattle.wb_term.specs.declared.nodes.BitId.{BitId}
use Rattle.wb_term.specs.declared.nodes.Node.{Node}
use Rattle.wb_term.specs.declared.nodes.Node.TheVariants.{Word}
use Rattle.wb_term.specs.declared.nodes.WordNode.TheVariants.{Byte, Cell}
use Rattle.wb_term.specs.Inputs.{Assignment, IsAssignment}
use Rattle.wb_term.specs.Terms.{Terms, IsGraph}
use Rattle.wb_term.specs.Values.{value, bit_value}
use Rattle.wb_term.specs.Under.{HasOnly}
use Rattle.wb_gate.specs.Circuit.{Circuit}
use Rattle.wb_blast.specs.declared.places.Place.{Place}
use Rattle.wb_blast.specs.Blasting.{AssignsWhereTrue}
use Rattle.wb_rom.specs.declared.images.Image.{Image}
use Rattle.wb_port.specs.declared.accesses.Kind.{Kind}
use Rattle.wb_port.specs.declared.accesses.Kind.TheVariants as kind
use Rattle.wb_port.specs.declared.accesses.Power.{Power}
use Rattle.wb_port.specs.declared.accesses.Power.TheVariants as power
use Rattle.wb_port.specs.Talk.{Talk, IsTalk, IsTransfer, kinds, transfers}
use Rattle.wb_port.specs.Dialogue.{AllowsStart}
use Rattle.wb_port.specs.NextPoint.{shown_of}
use Rattle.wb_machine.specs.State.{State}
use Rattle.wb_symstep.specs.declared.state.SymState.{SymState}
use Rattle.wb_symstep.specs.State.{StandsFor}
use Rattle.wb_point.specs.declared.question.FixedBit.{FixedBit}
use Rattle.wb_point.specs.declared.question.Query.{Query}
use Rattle.wb_point.specs.Dialogues.{access_under, accesses_under, dialogue_under, inputs_of, normalised}
use Rattle.wb_point.specs.Holds.{HoldsUnder}
use Rattle.wb_point.specs.Says.{Says}
use Rattle.wb_point.specs.Shows.{shows}

-- What a state shows is what each machine shows for which it stands.
abbrev pub StatesShowTheirMachines : Type 0
StatesShowTheirMachines = (inputs : Assignment) (g : Terms) (s : SymState) (m : State) → StandsFor inputs g s m → shows s ≡ shown_of m

-- A dialogue of data transfers with an allowed start is that of its kinds under its own inputs.
abbrev pub TalksComeBack : Type 0
TalksComeBack =
    (p : Power) (d : Talk) → All IsTransfer d.accesses → transfers d.accesses ≤ 16 → AllowsStart p d.start
    → dialogue_under (kinds d.accesses) (inputs_of d) p ≡ d

-- what a dialogue under inputs is
pub record IsOfKinds (ks : List Kind) (inputs : Assignment) (p : Power) : Type 0 where
  pub kinds : kinds (dialogue_under ks inputs p).accesses ≡ ks
  pub transfers : All IsTransfer (dialogue_under ks inputs p).accesses
  pub start : AllowsStart p (dialogue_under ks inputs p).start
  pub talk : IsAssignment inputs → IsTalk (dialogue_under ks inputs p)

-- A dialogue under inputs has its kinds, no status read, an allowed start, and bytes and words alone.
abbrev pub DialoguesAreOfTheirKinds : Type 0
DialoguesAreOfTheirKinds = (ks : List Kind) (inputs : Assignment) (p : Power) → IsOfKinds ks inputs p

-- With one kind more, a dialogue under inputs has one transfer more, at the place after the others.
abbrev pub DialoguesGrowAtTheEnd : Type 0
DialoguesGrowAtTheEnd =
    (ks : List Kind) (k : Kind) (inputs : Assignment)
    → accesses_under inputs 0 (ks ++ k ∷ []) ≡ accesses_under inputs 0 ks ++ access_under inputs (length ks) k ∷ []

-- the transfer at the place is a write
abbrev pub IsWriteAt : List Kind → ℕ → Type 0
IsWriteAt ks place = slice_get ks place ≡ Some kind.Write

-- what normalised inputs are
pub record IsNormalised (ks : List Kind) (p : Power) (inputs : Assignment) : Type 0 where
  pub same : dialogue_under ks (normalised ks p inputs) p ≡ dialogue_under ks inputs p
  pub written : (place : ℕ) → IsWriteAt ks place → slice_index (normalised ks p inputs).bytes place ≡ slice_index inputs.bytes place
  pub others : (place : ℕ) → (IsWriteAt ks place → ⊥) → slice_index (normalised ks p inputs).bytes place ≡ 0
  pub cells : p ≡ power.Any → (normalised ks p inputs).cells ≡ inputs.cells
  pub zeros : p ≡ power.Zero → (normalised ks p inputs).cells ≡ replicate 256 0
  pub assignment : IsAssignment inputs → IsAssignment (normalised ks p inputs)

-- Normalised inputs keep the dialogue, and so the bytes of its writes and the start where any is allowed; all else
-- is 0.
abbrev pub NormalisedInputsKeepTheDialogue : Type 0
NormalisedInputsKeepTheDialogue =
    (ks : List Kind) (p : Power) (inputs : Assignment) → length ks ≤ 16 → IsNormalised ks p inputs

-- Whether a question holds, whose fixed bits are of bytes that its dialogue writes, depends on the normalised
-- inputs alone.
abbrev pub NormalisedInputsDecide : Type 0
NormalisedInputsDecide =
    (a b : Image) (k : ℕ) (p : Power) (q : Query) (inputs : Assignment)
    → length q.kinds ≤ 16 → All (λ (f : FixedBit). IsWriteAt q.kinds f.place) q.fixed
    → HoldsUnder a b k p q inputs ↔ HoldsUnder a b k p q (normalised q.kinds p inputs)

abbrev pub is_write : Option Kind → Bool
is_write (Some kind.Write) = true
is_write _ = false

abbrev pub is_any : Power → Bool
is_any power.Zero = false
is_any power.Any = true

-- an input node that dialogues of these kinds use: the byte of a write, or where any start is allowed a word of it
abbrev pub is_used : List Kind → Power → Node → Bool
is_used ks p (Word (Byte place)) = is_write (slice_get ks place)
is_used ks p (Word (Cell place)) = is_any p
is_used ks p _ = false

-- Normalised inputs give each node the value that the inputs gave it, where only such input nodes stand under it.
abbrev pub NormalisedInputsGiveTheValues : Type 0
NormalisedInputsGiveTheValues =
    (g : Terms) → IsGraph g → (ks : List Kind) (p : Power) (inputs : Assignment) → length ks ≤ 16
    → (k : ℕ) → HasOnly g (is_used ks p) k → value (normalised ks p inputs) g k ≡ value inputs g k

-- A formula of a bit says a question where for all inputs the bit is true exactly where the question holds.
abbrev pub BitsSayQuestions : Type 0
BitsSayQuestions =
    (a b : Image) (k : ℕ) (p : Power) (q : Query) (g : Terms) (c : BitId) (formula : Circuit) (places : List Place)
    → AssignsWhereTrue g c formula places
    → ((inputs : Assignment) → IsAssignment inputs → (bit_value inputs g c ≡ true) ↔ HoldsUnder a b k p q inputs)
    → Says a b k p formula places q
