-- Where the replies of two circuits differ, and the question that this answers.
use Rattle.std.specs.Prelude.{◌≡◌, ◌≢◌, ◌↔◌, ◌==◌, ◌&&◌, ◌||◌, not, Bool, true, false, if◌then◌else◌, Option, Some, None, List, [], ◌∷◌, ◌⊎◌, Contains}
use Rattle.wb_rom.specs.declared.images.Image.{Image}
use Rattle.wb_term.specs.declared.nodes.BitId.{BitId}
use Rattle.wb_term.specs.Inputs.{Assignment, IsAssignment}
use Rattle.wb_term.specs.Terms.{Terms, HasBit}
use Rattle.wb_term.specs.Values.{word_value, bit_value}
use Rattle.wb_port.specs.declared.accesses.Access.{Access}
use Rattle.wb_port.specs.declared.accesses.Access.TheVariants as access
use Rattle.wb_port.specs.declared.accesses.Kind.{Kind}
use Rattle.wb_port.specs.declared.chips.Chip.{Chip}
use Rattle.wb_port.specs.Port.{access_reply}
use Rattle.wb_point.specs.declared.question.Query.{Query}
use Rattle.wb_explore.specs.declared.plan.Plan.{Plan}
use Rattle.wb_explore.specs.Runs.{Asks}
use Rattle.wb_explore.specs.Plans.{runs_of}
use Rattle.wb_replies.specs.declared.circuit.ReplyCircuit.{ReplyCircuit}

-- Under the inputs both circuits are present, and their status bytes differ or, where reads are wanted, the bytes
-- read do.
pub record AreToldApart (i : Assignment) (g : Terms) (a b : ReplyCircuit) (want_read : Bool) : Type 0 where
  pub first : bit_value i g a.present ≡ true
  pub second : bit_value i g b.present ≡ true
  pub differ : (word_value i g a.status ≢ word_value i g b.status) ⊎ ((want_read ≡ true) × (word_value i g a.read ≢ word_value i g b.read))

-- whether the words that are wanted differ
abbrev pub do_wanted_differ : Assignment → Terms → ReplyCircuit → ReplyCircuit → Bool → Bool
do_wanted_differ i g a b want_read =
    not (word_value i g a.status == word_value i g b.status) || (want_read && not (word_value i g a.read == word_value i g b.read))

-- whether both circuits are present and the words that are wanted differ
abbrev pub are_told_apart : Assignment → Terms → ReplyCircuit → ReplyCircuit → Bool → Bool
are_told_apart i g a b want_read =
    (bit_value i g a.present && bit_value i g b.present) && do_wanted_differ i g a b want_read

-- the words that are wanted are the very same nodes
pub record AreSame (a b : ReplyCircuit) (want_read : Bool) : Type 0 where
  pub status : a.status ≡ b.status
  pub read : want_read ≡ true → a.read ≡ b.read

-- A bit that is true exactly where the circuits are told apart; none only where they never are.
abbrev pub IsDifference : Terms → Terms → ReplyCircuit → ReplyCircuit → Bool → Option BitId → Type 0
IsDifference old new a b want_read None = (i : Assignment) → IsAssignment i → AreToldApart i old a b want_read → ⊥
IsDifference old new a b want_read (Some bit) =
    HasBit new bit × ((i : Assignment) → IsAssignment i → (bit_value i new bit ≡ true) ↔ AreToldApart i old a b want_read)

-- the access whose replies differ where the circuits are told apart
abbrev pub access_between : Assignment → Terms → ReplyCircuit → ReplyCircuit → Access
access_between i g a b = if word_value i g a.status == word_value i g b.status then access.Read else access.Status

-- the accesses that are asked for: a status read, and a data read where it is wanted
abbrev pub asked_for : Bool → List Access
asked_for false = access.Status ∷ []
asked_for true = access.Status ∷ access.Read ∷ []

-- Under the inputs the runs of both plans come to a first request, and the replies there differ to an access that is
-- asked for.
pub record RepliesDiffer (a b : Image) (p q : Plan) (i : Assignment) (want_read : Bool) : Type 0 where
  pub first : Chip
  pub first_asks : Asks (runs_of a p) i first
  pub second : Chip
  pub second_asks : Asks (runs_of b q) i second
  pub by : Access
  pub asked : Contains (asked_for want_read) by
  pub differ : access_reply by first.machine ≢ access_reply by second.machine

-- two plans for the same dialogues at one pace
pub record ArePaired (p q : Plan) : Type 0 where
  pub kinds : p.kinds ≡ q.kinds
  pub pace : p.pace ≡ q.pace
  pub power : p.power ≡ q.power

-- the question whether the answers to an access after a dialogue of these kinds differ
abbrev pub question_of_replies : List Kind → Bool → Query
question_of_replies ks want_read = record { kinds = ks; marks = []; fixed = []; last = asked_for want_read }
