-- What an exploration has noted of a chip to which a held run comes, and what that says of all inputs.
use Rattle.std.specs.Prelude.{◌≡◌, Bool, true, List, Contains}
use Rattle.wb_term.specs.Inputs.{Assignment, IsAssignment}
use Rattle.wb_port.specs.declared.chips.Chip.{Chip}
use Rattle.wb_port.specs.declared.points.Point.{Point}
use Rattle.wb_port.specs.Port.{rqm}
use Rattle.wb_law.specs.declared.classes.Class.TheVariants as class
use Rattle.wb_law.specs.Classes.{DoesNext}
use Rattle.wb_explore.specs.Runs.{Runs, Comes, Asks, point_in}
use Rattle.wb_explore.specs.Entries.{View, IsAtSome}

-- The point of the chip is among the points. Where it has just raised a request, a request state is at the chip.
-- It doesn't breach, and where it overruns, an overrun is kept.
pub record IsSeen {Q : Type 0} (v : View Q) (r : Runs) (points : List Point) (requests : List Q) (overrun : Bool) (i : Assignment) (c : Chip) : Type 0 where
  pub point : Contains points (point_in r c)
  pub request : rqm c.machine ≡ true → c.monitor.count ≡ 0 → IsAtSome v r requests i c
  pub overruns : DoesNext r.image r.pace c class.Overruns → overrun ≡ true
  pub breaches : DoesNext r.image r.pace c class.Breaches → ⊥

-- Where the condition of a request state is true, a first request follows the last access, and the state stands for
-- the machine there; and wherever a first request follows, some request state's condition is true.
pub record HoldsRequests {Q : Type 0} (v : View Q) (r : Runs) (qs : List Q) : Type 0 where
  pub sound : (q : Q) → Contains qs q → (i : Assignment) → IsAssignment i → v.holds q i ≡ true → (c : Chip) × Asks r i c × v.stands q i c.machine
  pub complete : (i : Assignment) → IsAssignment i → (c : Chip) → Asks r i c → IsAtSome v r qs i c

-- after the last access, no held run breaches or, where no overrun is kept, overruns
pub record StopsNowhere (r : Runs) (overrun : Bool) : Type 0 where
  pub breaches : (i : Assignment) → IsAssignment i → (c : Chip) → Comes r i c → DoesNext r.image r.pace c class.Breaches → ⊥
  pub overruns : (i : Assignment) → IsAssignment i → (c : Chip) → Comes r i c → DoesNext r.image r.pace c class.Overruns → overrun ≡ true

-- the points are those that the held runs pass after the last access, among others of other kinds or another side
pub record HoldsPassed (r : Runs) (points : List Point) : Type 0 where
  pub all : (i : Assignment) → IsAssignment i → (c : Chip) → Comes r i c → Contains points (point_in r c)
