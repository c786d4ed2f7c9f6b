-- Held chips, the points that they pass, and how a point goes on.
use Rattle.std.specs.Prelude.{◌≡◌, ◌↔◌, ℕ, ◌≤◌, ◌<◌, true, false, None, List, [], ◌∷◌, ◌++◌, All, Contains}
use Rattle.wb_word.specs.declared.sides.Side.{Side}
use Rattle.wb_rom.specs.declared.images.Image.{Image}
use Rattle.wb_port.specs.declared.accesses.Access.{Access}
use Rattle.wb_port.specs.declared.accesses.Access.TheVariants as access
use Rattle.wb_port.specs.declared.accesses.Event.TheVariants as event
use Rattle.wb_port.specs.declared.accesses.Kind.{Kind}
use Rattle.wb_port.specs.declared.accesses.Kind.TheVariants as kind
use Rattle.wb_port.specs.declared.chips.Chip.{Chip}
use Rattle.wb_port.specs.declared.points.Point.{Point}
use Rattle.wb_port.specs.Port.{rqm}
use Rattle.wb_port.specs.Monitor.{stepped}
use Rattle.wb_port.specs.Rank.{rank_of}
use Rattle.wb_port.specs.Schedule.{powered, applied}
use Rattle.wb_port.specs.Talk.{Talk, kinds, IsTransfer}
use Rattle.wb_port.specs.Run.{is_waiting}
use Rattle.wb_law.specs.Course.{strides, stop_of, Given}
use Rattle.wb_port.specs.Points.{Passes, IsTrail, point_at}
use Rattle.wb_port.specs.NextPoint.{shown_of, point_stepped, point_given}

-- the chip is in pace, and a request that stands is asked
pub record IsInPace (k : ℕ) (c : Chip) : Type 0 where
  pub count : c.monitor.count ≤ k
  pub asked : rqm c.machine ≡ true → c.monitor.asked ≡ true

-- A held chip stays in pace.
abbrev pub HeldChipsStayInPace : Type 0
HeldChipsStayInPace =
    (image : Image) (k : ℕ) (start : List ℕ) (accesses : List Access) (b : Chip) (j : ℕ)
    → Given image k accesses (powered start) b → IsInPace k (strides image k true j b)

-- Each instruction of a held chip raises its rank.
abbrev pub RanksRise : Type 0
RanksRise =
    (image : Image) (k : ℕ) (c : Chip)
    → IsInPace k c → is_waiting image c ≡ false → stop_of image k c ≡ None
    → rank_of image k c < rank_of image k (stepped image c)

-- Where a held chip strides on after some accesses, it has each rank once.
abbrev pub RanksAreOnce : Type 0
RanksAreOnce =
    (image : Image) (k : ℕ) (start : List ℕ) (accesses : List Access) (b : Chip) (i j : ℕ)
    → Given image k accesses (powered start) b
    → rank_of image k (strides image k true i b) ≡ rank_of image k (strides image k true j b)
    → strides image k true i b ≡ strides image k true j b

-- a held chip to which these accesses were given passes the point
pub record PassesAfter (image : Image) (s : Side) (k : ℕ) (front : List Access) (c : Chip) (p : Point) : Type 0 where
  pub after : Chip
  pub given : Given image k front c after
  pub steps : ℕ
  pub point : point_at s (kinds front) (strides image k true steps after) ≡ p

-- the point is passed after the first of the accesses, as many as it has
pub record PassesWithin (image : Image) (s : Side) (k : ℕ) (accesses : List Access) (c : Chip) (p : Point) : Type 0 where
  pub front : List Access
  pub rest : List Access
  pub parts : accesses ≡ front ++ rest
  pub passes : PassesAfter image s k front c p

-- Each point that a held run passes is passed by the held chip after some first accesses of its dialogue.
abbrev pub PointsArePassedAfterAccesses : Type 0
PointsArePassedAfterAccesses =
    (image : Image) (s : Side) (k : ℕ) (d : Talk) (p : Point)
    → Passes image s k d p → PassesWithin image s k d.accesses (powered d.start) p

-- A held run without status reads passes a point with all of its kinds exactly where the held chip does after
-- the last access.
abbrev pub LastPointsArePassedAfterAll : Type 0
LastPointsArePassedAfterAll =
    (image : Image) (s : Side) (k : ℕ) (d : Talk) (p : Point)
    → All IsTransfer d.accesses → p.kinds ≡ kinds d.accesses
    → Passes image s k d p ↔ PassesAfter image s k d.accesses (powered d.start) p

-- The points of a held run in order are those that it passes.
abbrev pub TrailsHoldThePoints : Type 0
TrailsHoldThePoints =
    (image : Image) (s : Side) (k : ℕ) (d : Talk) (points : List Point) (p : Point)
    → IsTrail image s k d points → Contains points p ↔ Passes image s k d p

-- the points of a chip before and after each event
pub record GoesOnBy (image : Image) (s : Side) (kinds : List Kind) (c : Chip) : Type 0 where
  pub step :
      point_at s kinds (applied image event.Step c)
      ≡ point_stepped image (shown_of (applied image event.Step c).machine) (point_at s kinds c)
  pub read :
      point_at s (kinds ++ kind.Read ∷ []) (applied image (event.Host access.Read) c)
      ≡ point_given kind.Read (shown_of (applied image (event.Host access.Read) c).machine) (point_at s kinds c)
  pub write : (byte : ℕ)
      → point_at s (kinds ++ kind.Write ∷ []) (applied image (event.Host (access.Write byte)) c)
      ≡ point_given kind.Write (shown_of (applied image (event.Host (access.Write byte)) c).machine) (point_at s kinds c)
  pub status : point_at s kinds (applied image (event.Host access.Status) c) ≡ point_at s kinds c

-- A point goes on by what it was and by what the machine shows then.
abbrev pub PointsGoOn : Type 0
PointsGoOn = (image : Image) (s : Side) (kinds : List Kind) (c : Chip) → GoesOnBy image s kinds c
