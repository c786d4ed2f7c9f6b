-- What holds of all circuits of replies.
use Rattle.std.specs.Prelude.{◌≡◌, ◌↔◌, Bool, true, Option, Some, None, Contains}
use Rattle.wb_rom.specs.declared.images.Image.{Image}
use Rattle.wb_term.specs.declared.nodes.Node.{Node}
use Rattle.wb_term.specs.declared.nodes.BitId.{BitId}
use Rattle.wb_term.specs.Inputs.{Assignment, IsAssignment}
use Rattle.wb_term.specs.Terms.{Terms}
use Rattle.wb_term.specs.Values.{bit_value}
use Rattle.wb_term.specs.Growth.{Grown}
use Rattle.wb_point.specs.Dialogues.{dialogue_under}
use Rattle.wb_point.specs.Holds.{HoldsUnder, AnswersDiffer}
use Rattle.wb_explore.specs.declared.plan.Plan.{Plan}
use Rattle.wb_replies.specs.declared.circuit.ReplyCircuit.{ReplyCircuit}
use Rattle.wb_replies.specs.Circuits.{IsCircuit, CircuitHasOnly, TellsReplies}
use Rattle.wb_replies.specs.Differences.{AreToldApart, IsDifference, RepliesDiffer, ArePaired, access_between, asked_for, question_of_replies}

-- A circuit of the old graph is one of the new, over the same inputs, and tells the same replies and differences.
pub record CircuitsAreKept (old new : Terms) : Type 0 where
  pub there : (c : ReplyCircuit) → IsCircuit old c → IsCircuit new c
  pub only : (allowed : Node → Bool) (c : ReplyCircuit) → IsCircuit old c → CircuitHasOnly old allowed c → CircuitHasOnly new allowed c
  pub tells : (image : Image) (p : Plan) (c : ReplyCircuit) → IsCircuit old c → TellsReplies old image p c → TellsReplies new image p c
  pub told : (image : Image) (p : Plan) (c : ReplyCircuit) → IsCircuit old c → TellsReplies new image p c → TellsReplies old image p c
  pub apart : (i : Assignment) (a b : ReplyCircuit) (want_read : Bool) → IsCircuit old a → IsCircuit old b → AreToldApart i old a b want_read ↔ AreToldApart i new a b want_read

-- Growth of the graph leaves every circuit as it is.
abbrev pub CircuitsStay : Type 0
CircuitsStay = (old new : Terms) → Grown old new → CircuitsAreKept old new

-- Two circuits are told apart under exactly the inputs whose runs both come to a first request where a reply differs.
abbrev pub DifferencesAreOfReplies : Type 0
DifferencesAreOfReplies =
    (g : Terms) (a b : Image) (p q : Plan) (x y : ReplyCircuit) (want_read : Bool)
    → TellsReplies g a p x → TellsReplies g b q y
    → (i : Assignment) → IsAssignment i
    → AreToldApart i g x y want_read ↔ RepliesDiffer a b p q i want_read

-- what it says of two images under inputs whether their circuits are told apart
pub record IsShown (g : Terms) (a b : Image) (p : Plan) (x y : ReplyCircuit) (want_read : Bool) (i : Assignment) : Type 0 where
  pub asked : AreToldApart i g x y want_read ↔ HoldsUnder a b p.pace p.power (question_of_replies p.kinds want_read) i
  pub among : AreToldApart i g x y want_read → Contains (asked_for want_read) (access_between i g x y)
  pub answers : AreToldApart i g x y want_read → AnswersDiffer a b p.pace (dialogue_under p.kinds i p.power) (access_between i g x y)

-- Two circuits for the same dialogues are told apart under exactly the inputs under which the question about the
-- replies holds, and then the images' answers differ to the dialogue followed by the access between the circuits.
abbrev pub DifferencesAreShown : Type 0
DifferencesAreShown =
    (g : Terms) (a b : Image) (p q : Plan) (x y : ReplyCircuit) (want_read : Bool)
    → ArePaired p q → TellsReplies g a p x → TellsReplies g b q y
    → (i : Assignment) → IsAssignment i → IsShown g a b p x y want_read i

-- a bit says under which inputs the question about the replies holds; where there is none, it holds under no inputs
abbrev pub SaysReplies : Terms → Image → Image → Plan → Bool → Option BitId → Type 0
SaysReplies g a b p want_read None =
    (i : Assignment) → IsAssignment i → HoldsUnder a b p.pace p.power (question_of_replies p.kinds want_read) i → ⊥
SaysReplies g a b p want_read (Some bit) =
    (i : Assignment) → IsAssignment i
    → (bit_value i g bit ≡ true) ↔ HoldsUnder a b p.pace p.power (question_of_replies p.kinds want_read) i

-- The bit of the difference of two circuits says the question about the replies.
abbrev pub DifferencesSayQuestions : Type 0
DifferencesSayQuestions =
    (old new : Terms) (a b : Image) (p q : Plan) (x y : ReplyCircuit) (want_read : Bool) (bit : Option BitId)
    → ArePaired p q → TellsReplies old a p x → TellsReplies old b q y
    → IsDifference old new x y want_read bit → SaysReplies new a b p want_read bit
