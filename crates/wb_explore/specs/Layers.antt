-- Layers: the request states of one side for some kinds of transfers.
use Rattle.std.specs.Prelude.{◌≡◌, ◌≢◌, ◌≤◌, ◌++◌, true, Option, Some, None, List, length, All, AllPairs, Contains}
use Rattle.wb_word.specs.declared.numbers.Addr.{Addr}
use Rattle.wb_rom.specs.declared.images.Image.{Image}
use Rattle.wb_term.specs.Inputs.{Assignment, IsAssignment}
use Rattle.wb_term.specs.Terms.{Terms, HasBit}
use Rattle.wb_term.specs.Values.{bit_value}
use Rattle.wb_term.specs.Under.{HasOnly}
use Rattle.wb_port.specs.declared.accesses.Kind.{Kind}
use Rattle.wb_port.specs.declared.points.Point.{Point}
use Rattle.wb_port.specs.Talk.{Talk, kinds, IsTransfer}
use Rattle.wb_port.specs.Dialogue.{AllowsStart}
use Rattle.wb_port.specs.Points.{Passes}
use Rattle.wb_port.specs.Verdicts.{Breaks, Overruns}
use Rattle.wb_symstep.specs.declared.state.SymState.{SymState}
use Rattle.wb_symstep.specs.State.{StandsFor, IsSymState, StateHasOnly}
use Rattle.wb_point.specs.Shows.{shows}
use Rattle.wb_point.specs.Dialogues.{dialogue_under, normalised}
use Rattle.wb_explore.specs.declared.plan.Plan.{Plan}
use Rattle.wb_explore.specs.declared.layer.Request.{Request}
use Rattle.wb_explore.specs.declared.reached.ReachedPoint.{ReachedPoint}
use Rattle.wb_explore.specs.Purses.{points_of}
use Rattle.wb_explore.specs.Entries.{View}
use Rattle.wb_explore.specs.Seen.{HoldsRequests}
use Rattle.wb_explore.specs.Plans.{runs_of, is_chosen, IsPlanned}

-- what a layer holds
pub record Requests : Type 0 where
  pub plan : Plan
  pub requests : List Request
  pub overrun : Option Talk

-- the point of a request state: a request has just been raised
abbrev pub request_point : Plan → SymState → Point
request_point p s = record {
  side = p.side;
  kinds = p.kinds;
  count = 0;
  pc = s.pc;
  sp = s.sp;
  stack = s.stack;
  asked = true;
  rqm = s.rqm;
  drs = s.drs;
}

-- what request states say
abbrev pub request_view : Plan → Terms → View Request
request_view p g = record {
  key = λ q. request_point p q.state;
  holds = λ q i. bit_value i g q.cond;
  stands = λ q i m. StandsFor i g q.state m;
  witness = λ q. Some q.inputs;
}

-- The terms of a request state are in the graph, over inputs that the dialogues choose alone. Its inputs are those of
-- a dialogue, under which its condition is true.
pub record IsRequest (g : Terms) (p : Plan) (q : Request) : Type 0 where
  pub state : IsSymState g q.state
  pub cond : HasBit g q.cond
  pub stands : q.state.rqm ≡ true
  pub state_inputs : StateHasOnly g (is_chosen p.kinds p.power) q.state
  pub cond_inputs : HasOnly g (is_chosen p.kinds p.power) q.cond.number
  pub assignment : IsAssignment q.inputs
  pub normal : normalised p.kinds p.power q.inputs ≡ q.inputs
  pub reached : bit_value q.inputs g q.cond ≡ true

-- The dialogue's kinds are the plan's or their first ones, it has no status read, and its held run overruns.
pub record IsOverrun (image : Image) (p : Plan) (d : Talk) : Type 0 where
  pub front : List Kind
  pub rest : List Kind
  pub parts : p.kinds ≡ front ++ rest
  pub kinds : kinds d.accesses ≡ front
  pub transfers : All IsTransfer d.accesses
  pub start : AllowsStart p.power d.start
  pub overruns : Overruns image d p.pace

-- an overrun is kept where there is one, of these kinds or of their first ones
abbrev pub KeepsOverrun : Image → Plan → Option Talk → Type 0
KeepsOverrun image p (Some d) = IsOverrun image p d
KeepsOverrun image p None =
    (front rest : List Kind) → p.kinds ≡ front ++ rest
    → (i : Assignment) → IsAssignment i → Overruns image (dialogue_under front i p.power) p.pace → ⊥

-- What a layer is of a graph and an image, for all inputs: its request states are those of the plan's dialogues, no
-- two at one place of the program, no held run of these dialogues breaches, and an overrun is kept.
pub record IsLayer (g : Terms) (image : Image) (l : Requests) : Type 0 where
  pub paced : 1 ≤ l.plan.pace
  pub few : length l.plan.kinds ≤ 16
  pub each : (q : Request) → Contains l.requests q → IsRequest g l.plan q
  pub apart : AllPairs (λ a b. shows a.state ≢ shows b.state) l.requests
  pub requests : HoldsRequests (request_view l.plan g) (runs_of image l.plan) l.requests
  pub breaches : (i : Assignment) → IsAssignment i → (at : Addr) → Breaks image (dialogue_under l.plan.kinds i l.plan.power) l.plan.pace at → ⊥
  pub overrun : KeepsOverrun image l.plan l.overrun

-- among the points are all that held runs pass of dialogues of the plan's kinds or of their first ones
abbrev pub Knows : Image → Plan → List ReachedPoint → Type 0
Knows image p reached =
    (front rest : List Kind) → p.kinds ≡ front ++ rest
    → (i : Assignment) → IsAssignment i → (x : Point)
    → Passes image p.side p.pace (dialogue_under front i p.power) x → Contains (points_of reached) x

-- the point is passed by the held run of its dialogue, which is one of the plan's
pub record IsPassedBy (image : Image) (p : Plan) (x : ReachedPoint) : Type 0 where
  pub planned : IsPlanned p x.dialogue
  pub passes : Passes image p.side p.pace x.dialogue x.point

-- the points that were added stand after the others, each with a dialogue of the plan whose held run passes it
pub record AddsPassed (image : Image) (p : Plan) (old new : List ReachedPoint) : Type 0 where
  pub added : List ReachedPoint
  pub after : new ≡ old ++ added
  pub passed : (x : ReachedPoint) → Contains added x → IsPassedBy image p x
