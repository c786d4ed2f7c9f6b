-- What a call explores: the dialogues of some kinds of transfers, one for each assignment of the inputs.
use Rattle.std.specs.Prelude.{◌≡◌, Bool, true, false, Option, Some, List, slice_get, All}
use Rattle.wb_rom.specs.declared.images.Image.{Image}
use Rattle.wb_term.specs.declared.nodes.WordNode.{WordNode}
use Rattle.wb_term.specs.declared.nodes.WordNode.TheVariants.{Byte, Cell}
use Rattle.wb_term.specs.declared.nodes.Node.{Node}
use Rattle.wb_term.specs.declared.nodes.Node.TheVariants.{Word}
use Rattle.wb_port.specs.declared.accesses.Kind.{Kind}
use Rattle.wb_port.specs.declared.accesses.Kind.TheVariants as kind
use Rattle.wb_port.specs.declared.accesses.Power.{Power}
use Rattle.wb_port.specs.declared.accesses.Power.TheVariants as power
use Rattle.wb_port.specs.Talk.{Talk, kinds, IsTransfer, IsTalk}
use Rattle.wb_port.specs.Dialogue.{AllowsStart}
use Rattle.wb_point.specs.Dialogues.{dialogue_under}
use Rattle.wb_explore.specs.declared.plan.Plan.{Plan}
use Rattle.wb_explore.specs.Runs.{Runs}

-- the held runs of the plan's dialogues on an image
abbrev pub runs_of : Image → Plan → Runs
runs_of image p = record {
  image = image;
  side = p.side;
  pace = p.pace;
  kinds = p.kinds;
  talk = λ i. dialogue_under p.kinds i p.power;
}

-- the dialogue has the plan's kinds, no status read, and an allowed start; its numbers are words and bytes
pub record IsPlanned (p : Plan) (d : Talk) : Type 0 where
  pub kinds : kinds d.accesses ≡ p.kinds
  pub transfers : All IsTransfer d.accesses
  pub start : AllowsStart p.power d.start
  pub talk : IsTalk d

abbrev pub is_write : Option Kind → Bool
is_write (Some kind.Write) = true
is_write _ = false

abbrev pub is_any : Power → Bool
is_any power.Zero = false
is_any power.Any = true

-- the word is an input that the dialogues of these kinds choose: the byte of a write, or a word of the start where
-- any is allowed
abbrev pub is_chosen_word : List Kind → Power → WordNode → Bool
is_chosen_word ks p (Byte place) = is_write (slice_get ks place)
is_chosen_word ks p (Cell place) = is_any p
is_chosen_word ks p _ = false

abbrev pub is_chosen : List Kind → Power → Node → Bool
is_chosen ks p (Word n) = is_chosen_word ks p n
is_chosen ks p _ = false
