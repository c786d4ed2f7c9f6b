-- What a held chip does next, by its point.
use Rattle.std.specs.Prelude.{◌≡◌, ◌↔◌, ℕ, true, false, ◌&&◌, ◌==◌, if◌then◌else◌, Some, None, List}
use Rattle.wb_word.specs.Encoding.{addr_at}
use Rattle.wb_word.specs.declared.sides.Side.{Side}
use Rattle.wb_rom.specs.declared.images.Image.{Image}
use Rattle.wb_port.specs.declared.accesses.Kind.{Kind}
use Rattle.wb_port.specs.declared.chips.Chip.{Chip}
use Rattle.wb_port.specs.declared.points.Point.{Point}
use Rattle.wb_port.specs.declared.runs.Run.TheVariants as run
use Rattle.wb_port.specs.Wait.{is_poll}
use Rattle.wb_port.specs.Monitor.{place, breaks_at}
use Rattle.wb_port.specs.Points.{point_at}
use Rattle.wb_port.specs.Rank.{rank_by}
use Rattle.wb_law.specs.declared.classes.Class.{Class}
use Rattle.wb_law.specs.declared.classes.Class.TheVariants as class
use Rattle.wb_law.specs.Course.{rests, stop_of}

-- what a held chip at the point does next: it waits at a poll, or its pace is used up, or its next instruction is
-- a breach, or it executes that
unfoldable pub class_at : Image → ℕ → Point → Class
class_at image k p =
    if p.rqm && is_poll image p.pc
    then class.Rests
    else if p.count == k
    then class.Overruns
    else if breaks_at image p.asked p.pc then class.Breaches else class.GoesOn

-- the rank of a point at pace k
abbrev pub rank_at : Image → ℕ → Point → ℕ
rank_at image k p = rank_by image k p.asked p.rqm p.count p.pc

-- the held chip does this next: it rests; or it doesn't, and its run overruns, or breaches, or neither
abbrev pub DoesNext : Image → ℕ → Chip → Class → Type 0
DoesNext image k c class.Rests = rests image true c ≡ true
DoesNext image k c class.Overruns = (rests image true c ≡ false) × (stop_of image k c ≡ Some run.Overrun)
DoesNext image k c class.Breaches =
    (rests image true c ≡ false) × (stop_of image k c ≡ Some (run.Breach (addr_at (place c))))
DoesNext image k c class.GoesOn = (rests image true c ≡ false) × (stop_of image k c ≡ None)

-- The point of a chip tells what the chip does next where it is held.
abbrev pub PointsTellWhatComes : Type 0
PointsTellWhatComes =
    (image : Image) (k : ℕ) (s : Side) (kinds : List Kind) (c : Chip) (x : Class)
    → class_at image k (point_at s kinds c) ≡ x ↔ DoesNext image k c x
