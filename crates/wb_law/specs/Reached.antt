-- How many points are reached: a bound, in place of the list of them all.
use Rattle.std.specs.Prelude.{◌≡◌, ◌↔◌, ℕ, ◌+◌, ◌≤◌, List, length, Contains}
use Rattle.wb_word.specs.declared.sides.Side.{Side}
use Rattle.wb_word.specs.declared.sides.Side.TheVariants as side
use Rattle.wb_rom.specs.declared.images.Image.{Image}
use Rattle.wb_port.specs.declared.accesses.Access.{Access}
use Rattle.wb_port.specs.declared.accesses.Letter.{Letter}
use Rattle.wb_port.specs.declared.accesses.Power.{Power}
use Rattle.wb_port.specs.declared.points.Point.{Point}
use Rattle.wb_port.specs.Dialogue.{Fits}
use Rattle.wb_port.specs.Points.{Passes, image_of, IsReachedOn, IsReached, ReachedAtMostOn, ReachedAtMost}
use Rattle.wb_port.specs.Talk.{Talk, dialogue, transfers_of}

-- Leaving status reads out of a dialogue changes no point of its held run.
abbrev pub StatusReadsPassNoPoint : Type 0
StatusReadsPassNoPoint =
    (image : Image) (s : Side) (k : ℕ) (start : List ℕ) (accesses : List Access) (p : Point)
    → Passes image s k (dialogue start accesses) p
    ↔ Passes image s k (dialogue start (transfers_of accesses)) p

-- A fitting dialogue passes reached points alone, also where it has status reads.
abbrev pub FittingDialoguesPassReachedPoints : Type 0
FittingDialoguesPassReachedPoints =
    (image : Image) (s : Side) (n k : ℕ) (shape : List Letter) (power : Power) (d : Talk) (p : Point)
    → Fits n shape power d → Passes image s k d p → IsReachedOn image s n k shape power p

-- A point is reached exactly where it is reached on its own side.
abbrev pub PointsAreReachedOnTheirSide : Type 0
PointsAreReachedOnTheirSide =
    (a b : Image) (s : Side) (n k : ℕ) (shape : List Letter) (power : Power) (p : Point)
    → IsReachedOn (image_of a b s) s n k shape power p
    ↔ (IsReached a b n k shape power p × (p.side ≡ s))

-- Where a list of at most p points holds every reached point, at most p points are reached.
abbrev pub ListsBoundReachedPoints : Type 0
ListsBoundReachedPoints =
    (a b : Image) (n k : ℕ) (shape : List Letter) (power : Power) (points : List Point) (p : ℕ)
    → ((x : Point) → IsReached a b n k shape power x → Contains points x)
    → length points ≤ p → ReachedAtMost a b n k shape power p

-- The same of one side.
abbrev pub ListsBoundPointsOfASide : Type 0
ListsBoundPointsOfASide =
    (image : Image) (s : Side) (n k : ℕ) (shape : List Letter) (power : Power) (points : List Point) (p : ℕ)
    → ((x : Point) → IsReachedOn image s n k shape power x → Contains points x)
    → length points ≤ p → ReachedAtMostOn image s n k shape power p

-- Where at most p points are reached, at most any greater number are.
abbrev pub GreaterBoundsHold : Type 0
GreaterBoundsHold =
    (a b : Image) (n k : ℕ) (shape : List Letter) (power : Power) (p q : ℕ)
    → p ≤ q → ReachedAtMost a b n k shape power p → ReachedAtMost a b n k shape power q

-- The same of one side.
abbrev pub GreaterBoundsHoldOfASide : Type 0
GreaterBoundsHoldOfASide =
    (image : Image) (s : Side) (n k : ℕ) (shape : List Letter) (power : Power) (p q : ℕ)
    → p ≤ q → ReachedAtMostOn image s n k shape power p → ReachedAtMostOn image s n k shape power q

-- What bounds both sides together bounds each side.
abbrev pub BoundsHoldOfEachSide : Type 0
BoundsHoldOfEachSide =
    (a b : Image) (s : Side) (n k : ℕ) (shape : List Letter) (power : Power) (p : ℕ)
    → ReachedAtMost a b n k shape power p
    → ReachedAtMostOn (image_of a b s) s n k shape power p

-- The bounds of the two sides add up.
abbrev pub BoundsOfSidesAddUp : Type 0
BoundsOfSidesAddUp =
    (a b : Image) (n k : ℕ) (shape : List Letter) (power : Power) (p q : ℕ)
    → ReachedAtMostOn a side.A n k shape power p → ReachedAtMostOn b side.B n k shape power q
    → ReachedAtMost a b n k shape power (p + q)
