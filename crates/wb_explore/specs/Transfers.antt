-- One transfer more, given to the request states of a layer.
use Rattle.std.specs.Prelude.{◌≡◌, ℕ, ◌+◌, ◌*◌, ◌≤◌, ◌≢◌, Bool, true, false, is_some, Option, Some, None, List, [], ◌∷◌, ◌++◌, length, take, slice_get, Contains}
use Rattle.wb_rom.specs.declared.images.Image.{Image}
use Rattle.wb_term.specs.declared.nodes.BitId.{BitId}
use Rattle.wb_term.specs.Inputs.{Assignment, IsAssignment}
use Rattle.wb_term.specs.Terms.{Terms, HasBit}
use Rattle.wb_term.specs.Values.{bit_value}
use Rattle.wb_term.specs.Under.{HasOnly}
use Rattle.wb_term.specs.Growth.{Grown, AddsAtMost}
use Rattle.wb_machine.specs.State.{State}
use Rattle.wb_port.specs.declared.accesses.Access.{Access}
use Rattle.wb_port.specs.declared.accesses.Kind.{Kind}
use Rattle.wb_port.specs.declared.points.Point.{Point}
use Rattle.wb_port.specs.declared.chips.Chip.{Chip}
use Rattle.wb_port.specs.Port.{accessed}
use Rattle.wb_port.specs.NextPoint.{shown_of, point_given}
use Rattle.wb_law.specs.Classes.{rank_at}
use Rattle.wb_symstep.specs.declared.state.SymState.{SymState}
use Rattle.wb_symstep.specs.declared.stepped.Stepped.{Stepped}
use Rattle.wb_symstep.specs.State.{StandsFor, IsSymState, StateHasOnly}
use Rattle.wb_symstep.specs.Stepped.{chosen}
use Rattle.wb_point.specs.Shows.{shows}
use Rattle.wb_point.specs.Dialogues.{access_under}
use Rattle.wb_explore.specs.declared.plan.Plan.{Plan}
use Rattle.wb_explore.specs.declared.layer.Request.{Request}
use Rattle.wb_explore.specs.declared.entries.Entry.{Entry}
use Rattle.wb_explore.specs.declared.reached.ReachedPoint.{ReachedPoint}
use Rattle.wb_explore.specs.declared.transfers.Way.{Way}
use Rattle.wb_explore.specs.Purses.{points_of}
use Rattle.wb_explore.specs.Runs.{Runs, Asks, Begins}
use Rattle.wb_explore.specs.Entries.{IsAtSome, Carries}
use Rattle.wb_explore.specs.Plans.{runs_of, is_chosen}
use Rattle.wb_explore.specs.Layers.{IsRequest, Requests, request_point, AddsPassed}
use Rattle.wb_explore.specs.Explored.{longer_plan}
use Rattle.wb_explore.specs.Pending.{entry_view, IsEntry, IsWitness, ArePending, AreAllFound, found_in}

-- Where the condition of the request state is true, the chip comes to a first request, and the state stands for the
-- machine there.
abbrev pub IsAsked : Terms → Image → Plan → Request → Type 0
IsAsked g image p q =
    (i : Assignment) → IsAssignment i → bit_value i g q.cond ≡ true
    → (c : Chip) × Asks (runs_of image p) i c × StandsFor i g q.state c.machine

-- the next access, of this kind
abbrev pub next_access : Plan → Kind → Assignment → Access
next_access p k i = access_under i (length p.kinds) k

-- of each machine for which the state stands, the chosen state stands for that after the next access
abbrev pub GivesTo : Terms → Plan → Kind → SymState → Stepped → Type 0
GivesTo g p k s r =
    (i : Assignment) → IsAssignment i → (m : State) → StandsFor i g s m
    → StandsFor i g (chosen i g r) (accessed (next_access p k i) m)

-- the entry that comes of a request state by the next access, which leaves this state, where the condition is this one
pub record IsGiven (image : Image) (p : Plan) (k : Kind) (from s : SymState) (c : BitId) (w : Option Assignment) (n : Entry) : Type 0 where
  pub key : n.key ≡ point_given k (shows s) (request_point p from)
  pub rank : n.rank ≡ rank_at image p.pace n.key
  pub state : n.state ≡ s
  pub cond : n.cond ≡ c
  pub witness : n.witness ≡ w
  pub from_shows : (inputs : Assignment) (g : Terms) (m : State) → StandsFor inputs g from m → shows from ≡ shown_of m
  pub shows : (inputs : Assignment) (g : Terms) (m : State) → StandsFor inputs g s m → shows s ≡ shown_of m

-- a state and a condition that may come of a request state by the next access: the state stands for the machines
-- after it wherever the condition is true, and there the request state's condition is true
pub record ComesOfGiving (g : Terms) (p : Plan) (k : Kind) (q : Request) (s : SymState) (c : BitId) (w : Option Assignment) : Type 0 where
  pub state : IsSymState g s
  pub there : HasBit g c
  pub state_inputs : StateHasOnly g (is_chosen (longer_plan p k).kinds p.power) s
  pub cond_inputs : HasOnly g (is_chosen (longer_plan p k).kinds p.power) c.number
  pub holds : (i : Assignment) → IsAssignment i → bit_value i g c ≡ true → bit_value i g q.cond ≡ true
  pub stands : (i : Assignment) → IsAssignment i → bit_value i g c ≡ true → (m : State) → StandsFor i g q.state m → StandsFor i g s (accessed (next_access p k i) m)
  pub witness : (u : Assignment) → w ≡ Some u → IsWitness g (longer_plan p k) c u

-- a way of a fork, which is there where its condition is true
abbrev pub IsWay : Terms → Plan → Kind → Request → Way → Option Assignment → Type 0
IsWay g p k q way w = ComesOfGiving g p k q way.state way.cond w

-- wherever the request state's condition is true, that of one of the ways is
abbrev pub AreAllWays : Terms → Request → Way → Way → Type 0
AreAllWays g q one other =
    (i : Assignment) → IsAssignment i → bit_value i g q.cond ≡ true → bit_value i g one.cond ≢ true
    → bit_value i g other.cond ≡ true

-- the first way comes first where the test is true, else the second
abbrev pub IsInOrder : Bool → Way → Way → Way → Way → Type 0
IsInOrder true one other first second = (first ≡ one) × (second ≡ other)
IsInOrder false one other first second = (first ≡ other) × (second ≡ one)

-- an entry that comes of a request state by the next access
pub record FollowsGiving (g : Terms) (p : Plan) (k : Kind) (q : Request) (n : Entry) : Type 0 where
  pub holds : (i : Assignment) → IsAssignment i → bit_value i g n.cond ≡ true → bit_value i g q.cond ≡ true
  pub stands : (i : Assignment) → IsAssignment i → bit_value i g n.cond ≡ true → (m : State) → StandsFor i g q.state m → StandsFor i g n.state (accessed (next_access p k i) m)
  pub key : (i : Assignment) → IsAssignment i → bit_value i g n.cond ≡ true → (m : State) → StandsFor i g q.state m → n.key ≡ point_given k (shown_of (accessed (next_access p k i) m)) (request_point p q.state)
  pub from_shows : (i : Assignment) (m : State) → StandsFor i g q.state m → shows q.state ≡ shown_of m

-- the first of some entries has a witness
abbrev pub IsFirstFound : List Entry → Type 0
IsFirstFound [] = ⊥
IsFirstFound (n ∷ ns) = is_some n.witness ≡ true

-- What comes of a request state by the next access: wherever its condition is true, that of one of the entries is.
pub record AreGiven (g : Terms) (image : Image) (p : Plan) (k : Kind) (q : Request) (ns : List Entry) : Type 0 where
  pub each : (n : Entry) → Contains ns n → IsEntry g image (longer_plan p k) n
  pub follow : (n : Entry) → Contains ns n → FollowsGiving g p k q n
  pub some : (i : Assignment) → IsAssignment i → bit_value i g q.cond ≡ true → (n : Entry) × Contains ns n × (bit_value i g n.cond ≡ true)
  pub found : IsFirstFound ns

-- entries were put among others, of which each point of the plan in the purse is found
pub record ArePut (image : Image) (p : Plan) (g h : Terms) (before after : List ReachedPoint) (es ns : List Entry) (fs : List Entry) : Type 0 where
  pub pending : ArePending h image p after fs
  pub carries : Carries (runs_of image p) (entry_view g) (es ++ ns) (entry_view h) fs
  pub found : AreAllFound p after fs
  pub noted : (n : Entry) → Contains ns n → is_some n.witness ≡ true → Contains (points_of after) n.key
  pub count : length before + found_in fs ≤ length after + found_in es

-- Some point of the plan is that of the state but for what a transfer changes: RQM, DRS and the kinds.
pub record IsPlaceNoted (p : Plan) (s : SymState) (reached : List ReachedPoint) : Type 0 where
  pub point : ReachedPoint
  pub listed : Contains reached point
  pub side : point.point.side ≡ p.side
  pub kinds : point.point.kinds ≡ p.kinds
  pub pc : point.point.pc ≡ s.pc
  pub sp : point.point.sp ≡ s.sp
  pub stack : point.point.stack ≡ s.stack

-- under the inputs an entry is at the chip right after the next access
abbrev pub IsGivenAt : Terms → Image → Plan → List Entry → Assignment → Type 0
IsGivenAt g image p es i = (b : Chip) → Begins (runs_of image p) i b → IsAtSome (entry_view g) (runs_of image p) es i b

-- the next access was given to a request state: an entry is where its chips come, and a point was noted
pub record IsServed (f g : Terms) (image : Image) (p : Plan) (reached : List ReachedPoint) (es : List Entry) (q : Request) : Type 0 where
  pub at : (i : Assignment) → IsAssignment i → bit_value i f q.cond ≡ true → IsGivenAt g image p es i
  pub noted : IsPlaceNoted p q.state reached

-- the next access was given to the first of the request states
pub record AreServed (f g : Terms) (image : Image) (p : Plan) (l : Requests) (before after : List ReachedPoint) (j : ℕ) (es : List Entry) : Type 0 where
  pub grown : Grown f g
  pub pending : ArePending g image p after es
  pub found : AreAllFound p after es
  pub served : (q : Request) → Contains (take j l.requests) q → IsServed f g image p after es q
  pub passed : AddsPassed image p before after
  pub count : length before + found_in es ≤ length after
  pub adds : AddsAtMost f g (621 * j) (10260 * j)
  pub begun : j ≡ 0 → es ≡ []
