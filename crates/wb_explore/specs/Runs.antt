-- The held runs of one dialogue for each assignment of the inputs, and the chips to which they come after the last
-- access.
use Rattle.std.specs.Prelude.{◌≡◌, ℕ, true, List, All}
use Rattle.wb_word.specs.declared.sides.Side.{Side}
use Rattle.wb_rom.specs.declared.images.Image.{Image}
use Rattle.wb_term.specs.Inputs.{Assignment, IsAssignment}
use Rattle.wb_port.specs.declared.accesses.Kind.{Kind}
use Rattle.wb_port.specs.declared.chips.Chip.{Chip}
use Rattle.wb_port.specs.declared.points.Point.{Point}
use Rattle.wb_port.specs.Schedule.{powered}
use Rattle.wb_port.specs.Talk.{Talk, kinds, IsTransfer, IsTalk}
use Rattle.wb_port.specs.Points.{point_at}
use Rattle.wb_law.specs.Course.{Given, AsksAfter}
use Rattle.wb_law.specs.Strides.{LeadsTo}

-- an image on a side, a pace, the kinds of some data transfers, and the dialogue that the inputs give
pub record Runs : Type 0 where
  pub image : Image
  pub side : Side
  pub pace : ℕ
  pub kinds : List Kind
  pub talk : Assignment → Talk

-- each dialogue has these kinds, no status reads, and bytes and words alone
pub record AreTalks (r : Runs) : Type 0 where
  pub kinds : (i : Assignment) → kinds (r.talk i).accesses ≡ r.kinds
  pub transfers : (i : Assignment) → All IsTransfer (r.talk i).accesses
  pub talk : (i : Assignment) → IsAssignment i → IsTalk (r.talk i)

-- under the inputs, the chip is the one right after the last access
abbrev pub Begins : Runs → Assignment → Chip → Type 0
Begins r i b = Given r.image r.pace (r.talk i).accesses (powered (r.talk i).start) b

-- under the inputs, the held chip comes to this chip after the last access
pub record Comes (r : Runs) (i : Assignment) (c : Chip) : Type 0 where
  pub start : Chip
  pub begins : Begins r i start
  pub leads : LeadsTo r.image r.pace true start c

-- under the inputs, the chip has the first request after the last access
abbrev pub Asks : Runs → Assignment → Chip → Type 0
Asks r i c = AsksAfter r.image r.pace (r.talk i).accesses (powered (r.talk i).start) c

-- the point of a chip in these runs
abbrev pub point_in : Runs → Chip → Point
point_in r c = point_at r.side r.kinds c
