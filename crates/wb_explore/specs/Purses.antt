-- A purse: how much may be spent, and the points that were reached, each with a dialogue whose held run passes it.
use Rattle.std.specs.Prelude.{◌≢◌, ◌≤◌, List, map, length, AllPairs}
use Rattle.wb_port.specs.declared.points.Point.{Point}
use Rattle.wb_explore.specs.declared.reached.ReachedPoint.{ReachedPoint}
use Rattle.wb_explore.specs.declared.budget.Budget.{Budget}

-- what a purse holds
pub record Holding : Type 0 where
  pub budget : Budget
  pub reached : List ReachedPoint

-- the points alone
abbrev pub points_of : List ReachedPoint → List Point
points_of reached = map (λ (r : ReachedPoint). r.point) reached

-- no point stands twice
abbrev pub AreDifferent : List ReachedPoint → Type 0
AreDifferent reached = AllPairs (λ a b. a.point ≢ b.point) reached

-- what every purse keeps: its points are pairwise different, and at most as many as its budget has, which are some
pub record IsPurse (p : Holding) : Type 0 where
  pub some : 1 ≤ p.budget.points
  pub most : p.budget.points ≤ 8192
  pub within : length p.reached ≤ p.budget.points
  pub different : AreDifferent p.reached
