-- Points: what an explorer tells apart of the moments of held runs.
use Rattle.std.specs.Prelude.{◌≡◌, ◌≢◌, ℕ, zero, suc, ◌≤◌, true, List, [], ◌∷◌, ◌++◌, length, All, AllPairs}
use Rattle.wb_word.specs.declared.sides.Side.{Side}
use Rattle.wb_word.specs.declared.sides.Side.TheVariants as side
use Rattle.wb_rom.specs.declared.images.Image.{Image}
use Rattle.wb_port.specs.declared.accesses.Access.TheVariants as access
use Rattle.wb_port.specs.declared.accesses.Kind.{Kind}
use Rattle.wb_port.specs.declared.accesses.Letter.{Letter}
use Rattle.wb_port.specs.declared.accesses.Power.{Power}
use Rattle.wb_port.specs.declared.chips.Chip.{Chip}
use Rattle.wb_port.specs.declared.points.Point.{Point}
use Rattle.wb_port.specs.declared.runs.Run.{Run}
use Rattle.wb_port.specs.Port.{rqm, drs}
use Rattle.wb_port.specs.Talk.{Talk, IsTransfer, kinds}
use Rattle.wb_port.specs.Dialogue.{Fits}
use Rattle.wb_port.specs.Run.{Moment, Turn, Gives, Steps, Ends, turn, goes_on, turns, beginning}

-- the point of a chip on a side, after data transfers of these kinds
abbrev pub point_at : Side → List Kind → Chip → Point
point_at s kinds c =
    record {
      side = s;
      kinds = kinds;
      count = c.monitor.count;
      pc = c.machine.regs.pc;
      sp = c.machine.regs.sp;
      stack = c.machine.stack;
      asked = c.monitor.asked;
      rqm = rqm c.machine;
      drs = drs c.machine;
    }

-- the point of a moment of a run
abbrev pub point_of : Side → Moment → Point
point_of s m = point_at s (kinds m.given) m.chip

-- the held run of the dialogue passes the point; a status read leaves the point as it is
abbrev pub Passes : Image → Side → ℕ → Talk → Point → Type 0
Passes image s k d p = (j : ℕ) × (point_of s (turns image k true j (beginning d)) ≡ p)

-- the point after a turn, where it executed an instruction or transferred data
abbrev pub points_of : Side → Turn → List Point
points_of s (Gives access.Status n) = []
points_of s (Gives access.Read n) = point_of s n ∷ []
points_of s (Gives (access.Write _) n) = point_of s n ∷ []
points_of s (Steps n) = point_of s n ∷ []
points_of s (Ends _) = []

-- the points after so many turns, in order
abbrev pub points_after : Image → Side → ℕ → ℕ → Moment → List Point
points_after image s k zero m = []
points_after image s k (suc j) m =
    points_of s (turn image k true m)
    ++ points_after image s k j (goes_on (turn image k true m) m)

-- all points that the held run of the dialogue passes, in order, from its beginning to its end
pub record IsTrail (image : Image) (s : Side) (k : ℕ) (d : Talk) (points : List Point) : Type 0 where
  pub last : ℕ
  pub end : Run
  pub ends : turn image k true (turns image k true last (beginning d)) ≡ Ends end
  pub list : points ≡ point_of s (beginning d) ∷ points_after image s k last (beginning d)

-- the image of a side
abbrev pub image_of : Image → Image → Side → Image
image_of a b side.A = a
image_of a b side.B = b

-- the held run of some fitting dialogue without status reads passes the point, on this side
pub record IsReachedOn (image : Image) (s : Side) (n k : ℕ) (shape : List Letter) (power : Power) (p : Point) : Type 0 where
  pub dialogue : Talk
  pub fits : Fits n shape power dialogue
  pub transfers : All IsTransfer dialogue.accesses
  pub passes : Passes image s k dialogue p

-- the point is reached on its own side
abbrev pub IsReached : Image → Image → ℕ → ℕ → List Letter → Power → Point → Type 0
IsReached a b n k shape power p = IsReachedOn (image_of a b p.side) p.side n k shape power p

-- no more than p values that differ from one another have the property
abbrev pub AtMost : {A : Type 0} → (A → Type 0) → ℕ → Type 0
AtMost {A} P p = (xs : List A) → AllPairs (λ x y. x ≢ y) xs → All P xs → length xs ≤ p

-- at most p points are reached on this side
abbrev pub ReachedAtMostOn : Image → Side → ℕ → ℕ → List Letter → Power → ℕ → Type 0
ReachedAtMostOn image s n k shape power p = AtMost (IsReachedOn image s n k shape power) p

-- at most p points are reached, on both sides together
abbrev pub ReachedAtMost : Image → Image → ℕ → ℕ → List Letter → Power → ℕ → Type 0
ReachedAtMost a b n k shape power p = AtMost (IsReached a b n k shape power) p
