-- What comes of an exploration that was led to its end.
use Rattle.std.specs.Prelude.{◌≡◌, ◌≢◌, ℕ, is_some, Option, Some, None, List, [], ◌∷◌, ◌++◌, AllPairs, Contains}
use Rattle.wb_word.specs.declared.sides.Side.{Side}
use Rattle.wb_rom.specs.declared.images.Image.{Image}
use Rattle.wb_term.specs.Terms.{Terms}
use Rattle.wb_port.specs.declared.accesses.Kind.{Kind}
use Rattle.wb_port.specs.declared.accesses.Power.{Power}
use Rattle.wb_port.specs.Talk.{Talk}
use Rattle.wb_point.specs.Shows.{shows}
use Rattle.wb_explore.specs.declared.plan.Plan.{Plan}
use Rattle.wb_explore.specs.declared.layer.Request.{Request}
use Rattle.wb_explore.specs.declared.reached.ReachedPoint.{ReachedPoint}
use Rattle.wb_explore.specs.Purses.{points_of}
use Rattle.wb_explore.specs.Plans.{runs_of}
use Rattle.wb_explore.specs.Seen.{HoldsRequests, StopsNowhere, HoldsPassed}
use Rattle.wb_explore.specs.Layers.{Requests, request_view, IsRequest, IsOverrun}

-- no transfers yet
abbrev pub first_plan : Side → ℕ → Power → Plan
first_plan side pace power = record { side = side; pace = pace; power = power; kinds = [] }

-- one transfer more
abbrev pub longer_plan : Plan → Kind → Plan
longer_plan p k = record p { kinds = p.kinds ++ k ∷ [] }

-- the point is one of the other side, or of other kinds
abbrev pub IsOfOther : Plan → ReachedPoint → Type 0
IsOfOther p r = r.point.side ≡ p.side → r.point.kinds ≡ p.kinds → ⊥

-- an overrun that is kept is one of these kinds or of their first ones
abbrev pub KeepsRight : Image → Plan → Option Talk → Type 0
KeepsRight image p (Some d) = IsOverrun image p d
KeepsRight image p None = Unit {0}

-- an overrun that was kept stays
abbrev pub KeepsOlder : Option Talk → Option Talk → Type 0
KeepsOlder (Some d) after = after ≡ Some d
KeepsOlder None after = Unit {0}

-- After the last access, each held run was followed to where it waits or stops: its points are in the purse, its
-- first request is a request state, and none breaches or, where no overrun is kept, overruns.
pub record IsExplored (g : Terms) (image : Image) (reached : List ReachedPoint) (l : Requests) : Type 0 where
  pub each : (q : Request) → Contains l.requests q → IsRequest g l.plan q
  pub apart : AllPairs (λ a b. shows a.state ≢ shows b.state) l.requests
  pub requests : HoldsRequests (request_view l.plan g) (runs_of image l.plan) l.requests
  pub stops : StopsNowhere (runs_of image l.plan) (is_some l.overrun)
  pub passed : HoldsPassed (runs_of image l.plan) (points_of reached)
  pub overrun : KeepsRight image l.plan l.overrun
