-- Pending entries: places that some held runs pass, from which the exploration has yet to go on.
use Rattle.std.specs.Prelude.{◌≡◌, ◌≢◌, ℕ, ◌+◌, ◌≤◌, ◌<◌, true, is_some, Option, Some, None, Result, Ok, Err, List, [], ◌∷◌, ◌++◌, ◌⊎◌, length, slice_index_or, if◌then◌else◌, All, Contains}
use Rattle.std.specs.List.{sum_by}
use Rattle.wb_rom.specs.declared.images.Image.{Image}
use Rattle.wb_term.specs.declared.nodes.BitId.{BitId}
use Rattle.wb_term.specs.Inputs.{Assignment, IsAssignment}
use Rattle.wb_term.specs.Terms.{Terms, HasBit}
use Rattle.wb_term.specs.Values.{bit_value}
use Rattle.wb_term.specs.Under.{HasOnly}
use Rattle.wb_port.specs.declared.points.Point.{Point}
use Rattle.wb_port.specs.declared.chips.Chip.{Chip}
use Rattle.wb_machine.specs.State.{State, IsState}
use Rattle.wb_machine.specs.Next.{next}
use Rattle.wb_port.specs.Monitor.{stepped}
use Rattle.wb_port.specs.NextPoint.{showing, shown_of, point_stepped}
use Rattle.wb_symstep.specs.declared.state.SymState.{SymState}
use Rattle.wb_law.specs.Classes.{rank_at}
use Rattle.wb_symstep.specs.State.{StandsFor, IsSymState, StateHasOnly}
use Rattle.wb_symstep.specs.declared.stepped.Stepped.{Stepped}
use Rattle.wb_symstep.specs.Stepped.{chosen}
use Rattle.wb_point.specs.Shows.{shows}
use Rattle.wb_point.specs.Dialogues.{normalised, dialogue_under}
use Rattle.wb_point.specs.declared.question.Query.{Query}
use Rattle.wb_query.specs.declared.asking.Found.{Found}
use Rattle.wb_query.specs.declared.asking.AskFault.{AskFault}
use Rattle.wb_query.specs.declared.asking.AskFault.TheVariants as ask
use Rattle.wb_explore.specs.declared.plan.Plan.{Plan}
use Rattle.wb_explore.specs.declared.entries.Entry.{Entry}
use Rattle.wb_explore.specs.declared.going.Arrivals.{Arrivals}
use Rattle.wb_explore.specs.declared.going.Arrivals.TheVariants as arrivals
use Rattle.wb_explore.specs.declared.reached.ReachedPoint.{ReachedPoint}
use Rattle.wb_explore.specs.declared.faults.ExploreFault.{ExploreFault}
use Rattle.wb_explore.specs.declared.faults.ExploreFault.TheVariants as fault
use Rattle.wb_explore.specs.Purses.{Holding, points_of}
use Rattle.wb_explore.specs.Faults.{AreTooMany}
use Rattle.wb_explore.specs.Entries.{View, IsAt, IsAtSome, AreSound, AreApart, Carries, Joins, FollowsOn, Taken}
use Rattle.wb_explore.specs.Runs.{Comes}
use Rattle.wb_explore.specs.Plans.{runs_of, is_chosen}
use Rattle.wb_explore.specs.Layers.{AddsPassed}

abbrev pub entry_key : Entry → Point
entry_key e = e.key

-- what pending entries say
abbrev pub entry_view : Terms → View Entry
entry_view g = record {
  key = entry_key;
  holds = λ e i. bit_value i g e.cond;
  stands = λ e i m. StandsFor i g e.state m;
  witness = λ e. e.witness;
}

-- inputs of a dialogue of the plan, under which the bit is true
pub record IsWitness (g : Terms) (p : Plan) (cond : BitId) (w : Assignment) : Type 0 where
  pub assignment : IsAssignment w
  pub normal : normalised p.kinds p.power w ≡ w
  pub reached : bit_value w g cond ≡ true

-- an entry's terms are in the graph, over inputs that the dialogues choose alone; its point shows its state
pub record IsEntry (g : Terms) (image : Image) (p : Plan) (e : Entry) : Type 0 where
  pub state : IsSymState g e.state
  pub cond : HasBit g e.cond
  pub state_inputs : StateHasOnly g (is_chosen p.kinds p.power) e.state
  pub cond_inputs : HasOnly g (is_chosen p.kinds p.power) e.cond.number
  pub shown : showing (shows e.state) e.key ≡ e.key
  pub side : e.key.side ≡ p.side
  pub kinds : e.key.kinds ≡ p.kinds
  pub count : e.key.count ≤ p.pace
  pub rank : e.rank ≡ rank_at image p.pace e.key
  pub witness : (w : Assignment) → e.witness ≡ Some w → IsWitness g p e.cond w

-- some entry of the point has a witness
pub record IsFound (es : List Entry) (key : Point) : Type 0 where
  pub entry : Entry
  pub listed : Contains es entry
  pub same : entry.key ≡ key
  pub found : is_some entry.witness ≡ true

-- how many entries have a witness
abbrev pub found_in : List Entry → ℕ
found_in es = sum_by (λ (e : Entry). if is_some e.witness then 1 else 0) es

-- What holds of all pending entries: no two have one point, where the condition of one is true a held run passes its
-- point, and the points of those with a witness are in the purse.
pub record ArePending (g : Terms) (image : Image) (p : Plan) (reached : List ReachedPoint) (es : List Entry) : Type 0 where
  pub each : (e : Entry) → Contains es e → IsEntry g image p e
  pub apart : AreApart entry_key es
  pub sound : AreSound (entry_view g) (runs_of image p) es
  pub known : (e : Entry) → Contains es e → is_some e.witness ≡ true → Contains (points_of reached) e.key

-- a point is behind: of a rank up to the bound, and of no entry
abbrev pub IsBehind : Image → Plan → List Entry → ℕ → Point → Type 0
IsBehind image p es bound x = (rank_at image p.pace x ≤ bound) × ((e : Entry) → Contains es e → e.key ≢ x)

-- a point is that of a pending entry with a witness, or it is behind
abbrev pub IsPlaced : Image → Plan → List Entry → ℕ → Point → Type 0
IsPlaced image p es bound x = IsFound es x ⊎ IsBehind image p es bound x

-- what is behind the first entries is behind the second ones
abbrev pub StaysBehind : Image → Plan → List Entry → List Entry → ℕ → Type 0
StaysBehind image p es fs bound = (x : Point) → IsBehind image p es bound x → IsBehind image p fs bound x

-- each point of the plan in the purse is placed, and all entries are ahead
pub record AreAhead (image : Image) (p : Plan) (reached : List ReachedPoint) (es : List Entry) (bound : ℕ) : Type 0 where
  pub placed : (x : ReachedPoint) → Contains reached x → x.point.side ≡ p.side → x.point.kinds ≡ p.kinds → IsPlaced image p es bound x.point
  pub ahead : (e : Entry) → Contains es e → bound ≤ e.rank

-- of each point of the plan in the purse some pending entry has a witness
abbrev pub AreAllFound : Plan → List ReachedPoint → List Entry → Type 0
AreAllFound p reached es =
    (x : ReachedPoint) → Contains reached x → x.point.side ≡ p.side → x.point.kinds ≡ p.kinds → IsFound es x.point

-- An entry was put among others, alone or joined with that of its point.
pub record IsPut (image : Image) (p : Plan) (g h : Terms) (before after : List ReachedPoint) (es : List Entry) (e : Entry) (fs : List Entry) : Type 0 where
  pub pending : ArePending h image p after fs
  pub carries : Carries (runs_of image p) (entry_view g) (es ++ e ∷ []) (entry_view h) fs
  pub ahead : (bound : ℕ) → AreAhead image p before es bound → bound < e.rank → AreAhead image p after fs bound
  pub found : AreAllFound p before es → AreAllFound p after fs
  pub noted : is_some e.witness ≡ true → Contains (points_of after) e.key
  pub behind : (bound : ℕ) → bound < e.rank → StaysBehind image p es fs bound
  pub adds : AddsPassed image p before after
  pub count : length before + found_in fs ≤ length after + found_in es
  pub longer : length fs ≤ length es + 1

-- the place has this point; or none has
abbrev pub IsPlaceOf : List Entry → Point → Option ℕ → Type 0
IsPlaceOf es key (Some n) = (n < length es) × ((e : Entry) → (slice_index_or es n e).key ≡ key)
IsPlaceOf es key None = All (λ e. e.key ≢ key) es

-- the points with that of an entry at their end, where inputs of it are newly found
abbrev pub with_noted : Plan → Point → Option Assignment → List ReachedPoint → List ReachedPoint
with_noted p key None before = before
with_noted p key (Some w) before = before ++ record { point = key; dialogue = dialogue_under p.kinds w p.power } ∷ []

-- the inputs of the first, or else of the second
abbrev pub either : Option Assignment → Option Assignment → Option Assignment
either None other = other
either (Some w) other = Some w

-- the inputs of the first, where the second has none
abbrev pub newly : Option Assignment → Option Assignment → Option Assignment
newly (Some w) None = Some w
newly _ _ = None

-- why a point isn't noted: the purse is full; or want of memory
abbrev pub IsUnnoted : Holding → ReachedPoint → ExploreFault → Type 0
IsUnnoted before x (fault.Points list) = (list ≡ before.reached ++ x ∷ []) × (length before.reached ≡ before.budget.points)
IsUnnoted before x fault.OutOfMemory = Unit {0}
IsUnnoted before x _ = ⊥

-- an entry that joins two of one point was put at the end
pub record IsMet (g : Terms) (image : Image) (p : Plan) (e other : Entry) (rest new : List Entry) : Type 0 where
  pub joined : Entry
  pub put : new ≡ rest ++ joined ∷ []
  pub entry : IsEntry g image p joined
  pub joins : Joins (entry_view g) e other joined
  pub witness : joined.witness ≡ either e.witness other.witness

-- why a point isn't noted where inputs of it may be newly found
abbrev pub IsUnmet : Plan → Holding → Point → Option Assignment → ExploreFault → Type 0
IsUnmet p before key (Some w) e = IsUnnoted before (record { point = key; dialogue = dialogue_under p.kinds w p.power }) e
IsUnmet p before key None e = e ≡ fault.OutOfMemory

-- a purse is as before, or the point is noted in it
abbrev pub IsNotedOrNot : Plan → Point → Option Assignment → Holding → Holding → Type 0
IsNotedOrNot p key o before after = (after ≡ before) ⊎ (after ≡ record before { reached = with_noted p key o before.reached })

-- why an entry isn't put: the purse is full, and the entry's point is new; or want of memory
abbrev pub IsUnput : Image → Plan → Holding → ExploreFault → Type 0
IsUnput image p before (fault.Points list) = AreTooMany image p before list
IsUnput image p before fault.OutOfMemory = Unit {0}
IsUnput image p before _ = ⊥

-- a chip at which the entry is has a rank above the bound
abbrev pub IsAbove : Terms → Image → Plan → ℕ → Entry → Type 0
IsAbove g image p bound e =
    (i : Assignment) → IsAssignment i → (c : Chip) → Comes (runs_of image p) i c → IsAt (entry_view g) (runs_of image p) i e c → bound < e.rank

-- an entry above the bound was put among those ahead of it, or it is at no chip
pub record IsPutAhead (image : Image) (p : Plan) (g h : Terms) (before after : List ReachedPoint) (es : List Entry) (e : Entry) (bound : ℕ) (fs : List Entry) : Type 0 where
  pub pending : ArePending h image p after fs
  pub carries : Carries (runs_of image p) (entry_view g) (es ++ e ∷ []) (entry_view h) fs
  pub ahead : AreAhead image p after fs bound
  pub behind : StaysBehind image p es fs bound
  pub count : length before + found_in fs ≤ length after + found_in es
  pub longer : length fs ≤ length es + 1

-- the entry that comes of another by one instruction, which leaves this state, where the condition is this one
pub record IsNext (image : Image) (p : Plan) (e : Entry) (s : SymState) (c : BitId) (w : Option Assignment) (n : Entry) : Type 0 where
  pub key : n.key ≡ point_stepped image (shows s) e.key
  pub rank : n.rank ≡ rank_at image p.pace n.key
  pub state : n.state ≡ s
  pub cond : n.cond ≡ c
  pub witness : n.witness ≡ w
  pub shows : (inputs : Assignment) (g : Terms) (m : State) → StandsFor inputs g s m → shows s ≡ shown_of m

-- what comes of an entry by one instruction: wherever its condition is true, that of one of them is
pub record AreArrivals (g : Terms) (image : Image) (p : Plan) (e : Entry) (ns : List Entry) : Type 0 where
  pub each : (n : Entry) → Contains ns n → IsEntry g image p n
  pub follow : (n : Entry) → Contains ns n → FollowsOn (entry_view g) image e n
  pub some : (i : Assignment) → IsAssignment i → bit_value i g e.cond ≡ true → (n : Entry) × Contains ns n × (bit_value i g n.cond ≡ true)

-- The exploration went on from an entry: what comes of it was put among the others.
pub record IsGoneOn (image : Image) (p : Plan) (g h : Terms) (before after : List ReachedPoint) (es : List Entry) (e : Entry) (fs : List Entry) : Type 0 where
  pub pending : ArePending h image p after fs
  pub ahead : AreAhead image p after fs e.rank
  pub behind : StaysBehind image p es fs e.rank
  pub carries : Carries (runs_of image p) (entry_view g) es (entry_view h) fs
  pub arrives : (i : Assignment) → IsAssignment i → (d : Chip) → Comes (runs_of image p) i d → IsAt (entry_view g) (runs_of image p) i e d → IsAtSome (entry_view h) (runs_of image p) fs i (stepped image d)
  pub count : length before + found_in fs ≤ length after + found_in es
  pub longer : length fs ≤ length es + 2

-- The first inherits the inputs where its bit is true under them, else the second does.
pub record AreHeirs (g : Terms) (first : BitId) (w one other : Option Assignment) : Type 0 where
  pub to_first : (u : Assignment) → one ≡ Some u → (w ≡ Some u) × (bit_value u g first ≡ true)
  pub to_second : (u : Assignment) → other ≡ Some u → (w ≡ Some u) × (bit_value u g first ≢ true)

-- one or two entries
abbrev pub list_of : Arrivals → List Entry
list_of (arrivals.One a) = a ∷ []
list_of (arrivals.Two a b) = a ∷ b ∷ []

-- of each machine for which the entry stands, the chosen state stands for that after the instruction
abbrev pub StepsTo : Terms → Image → Entry → Stepped → Type 0
StepsTo g image e r =
    (i : Assignment) → IsAssignment i → (m : State) → IsState m → StandsFor i g e.state m
    → StandsFor i g (chosen i g r) (next image m)

-- an entry with this state and condition that may come of another: the state stands for the machines after the
-- instruction wherever the condition is true, and there the other's condition is true
pub record ComesOf (g : Terms) (image : Image) (p : Plan) (e : Entry) (s : SymState) (c : BitId) (w : Option Assignment) : Type 0 where
  pub state : IsSymState g s
  pub there : HasBit g c
  pub state_inputs : StateHasOnly g (is_chosen p.kinds p.power) s
  pub cond_inputs : HasOnly g (is_chosen p.kinds p.power) c.number
  pub holds : (i : Assignment) → IsAssignment i → bit_value i g c ≡ true → bit_value i g e.cond ≡ true
  pub stands : (i : Assignment) → IsAssignment i → bit_value i g c ≡ true → (m : State) → IsState m → StandsFor i g e.state m → StandsFor i g s (next image m)
  pub witness : (u : Assignment) → w ≡ Some u → IsWitness g p c u

-- each of one or two entries has the property
abbrev pub each_of : (Entry → Type 0) → Arrivals → Type 0
each_of P (arrivals.One a) = P a
each_of P (arrivals.Two a b) = P a × P b

-- entries above the bound were put among those ahead of it
pub record ArePutAhead (image : Image) (p : Plan) (g h : Terms) (before after : List ReachedPoint) (es ns : List Entry) (bound : ℕ) (fs : List Entry) : Type 0 where
  pub pending : ArePending h image p after fs
  pub carries : Carries (runs_of image p) (entry_view g) (es ++ ns) (entry_view h) fs
  pub ahead : AreAhead image p after fs bound
  pub behind : StaysBehind image p es fs bound
  pub count : length before + found_in fs ≤ length after + found_in es
  pub longer : length fs ≤ length es + 2

-- the question under which inputs the held run of the plan's dialogue passes a point
abbrev pub question_of : Plan → Point → Query
question_of p key = record { kinds = p.kinds; marks = key ∷ []; fixed = []; last = [] }

-- a fault of asking, with its question
abbrev pub asked_by : Query → AskFault → ExploreFault
asked_by q (ask.Spent b steps) = fault.Conflicts (record { query = q; blasted = b }) steps
asked_by q (ask.BadAnswer b answer) = fault.BadAnswer (record { query = q; blasted = b }) answer
asked_by q ask.OutOfMemory = fault.OutOfMemory

-- what is found of an entry's condition, with the question where nothing is
abbrev pub answered_by : Query → Result Found AskFault → Result Found ExploreFault
answered_by q (Ok found) = Ok found
answered_by q (Err e) = Err (asked_by q e)

-- the entry of least rank was taken; or there was none
abbrev pub IsTakenLeast : List Entry → List Entry → Option Entry → Type 0
IsTakenLeast old new (Some e) = Taken old new e × All (λ f. e.rank ≤ f.rank) old
IsTakenLeast old new None = (old ≡ []) × (new ≡ [])
