-- The walk: what holds between two entries, and what becomes of the entry that is up next.
use Rattle.std.specs.Prelude.{◌≡◌, ◌≢◌, ℕ, ◌+◌, ◌-◌, ◌*◌, ◌≤◌, Bool, true, false, is_some, Option, Some, None, List, [], ◌∷◌, ◌++◌, ◌⊎◌, if◌then◌else◌, length, AllPairs, Contains}
use Rattle.wb_word.specs.Encoding.{addr_at}
use Rattle.wb_rom.specs.declared.images.Image.{Image}
use Rattle.wb_term.specs.Inputs.{Assignment, IsAssignment}
use Rattle.wb_term.specs.Terms.{Terms}
use Rattle.wb_term.specs.Values.{bit_value}
use Rattle.wb_port.specs.declared.chips.Chip.{Chip}
use Rattle.wb_port.specs.Monitor.{stepped}
use Rattle.wb_port.specs.Talk.{Talk}
use Rattle.wb_law.specs.declared.classes.Class.TheVariants as class
use Rattle.wb_law.specs.Classes.{class_at}
use Rattle.wb_point.specs.Shows.{shows}
use Rattle.wb_point.specs.Dialogues.{dialogue_under}
use Rattle.wb_explore.specs.declared.plan.Plan.{Plan}
use Rattle.wb_explore.specs.declared.entries.Entry.{Entry}
use Rattle.wb_explore.specs.declared.layer.Request.{Request}
use Rattle.wb_explore.specs.declared.reached.ReachedPoint.{ReachedPoint}
use Rattle.wb_explore.specs.declared.faults.ExploreFault.{ExploreFault}
use Rattle.wb_explore.specs.declared.faults.ExploreFault.TheVariants as fault
use Rattle.wb_explore.specs.Purses.{Holding, points_of}
use Rattle.wb_explore.specs.Runs.{Comes}
use Rattle.wb_explore.specs.Entries.{IsAt, IsSound, AreSound, IsAtSome, Covered, Carries}
use Rattle.wb_explore.specs.Plans.{runs_of}
use Rattle.wb_explore.specs.Layers.{request_point, request_view, IsRequest}
use Rattle.wb_explore.specs.Seen.{IsSeen}
use Rattle.wb_explore.specs.Explored.{KeepsRight, KeepsOlder}
use Rattle.wb_explore.specs.Faults.{IsCause}
use Rattle.wb_explore.specs.Pending.{entry_view, IsEntry, ArePending, IsBehind, StaysBehind, AreAhead, found_in, with_noted, newly}

-- The request states so far are those of the plan's dialogues, no two at one place of the program, and their points
-- are behind.
pub record AreFound (g : Terms) (image : Image) (p : Plan) (es : List Entry) (bound : ℕ) (qs : List Request) : Type 0 where
  pub each : (q : Request) → Contains qs q → IsRequest g p q
  pub sound : AreSound (request_view p g) (runs_of image p) qs
  pub apart : AllPairs (λ a b. shows a.state ≢ shows b.state) qs
  pub behind : (q : Request) → Contains qs q → IsBehind image p es bound (request_point p q.state)

-- all to which held runs come has been seen, or a pending entry is at or before it
abbrev pub AreCovered : Terms → Image → Plan → List ReachedPoint → List Entry → List Request → Option Talk → Type 0
AreCovered g image p reached es qs overrun =
    Covered (entry_view g) (runs_of image p) es
    (IsSeen (request_view p g) (runs_of image p) (points_of reached) qs (is_some overrun))

-- What holds before and after each turn of the walk.
pub record IsUnderWay (g : Terms) (image : Image) (p : Plan) (reached : List ReachedPoint) (es : List Entry) (qs : List Request) (overrun : Option Talk) : Type 0 where
  pub bound : ℕ
  pub pending : ArePending g image p reached es
  pub ahead : AreAhead image p reached es bound
  pub requests : AreFound g image p es bound qs
  pub covered : AreCovered g image p reached es qs overrun
  pub right : KeepsRight image p overrun

-- What holds where an entry of least rank was taken from the others: no other has its point, and the purse has its
-- point just where inputs of it are known.
pub record IsUp (g : Terms) (image : Image) (p : Plan) (reached : List ReachedPoint) (e : Entry) (es : List Entry) (qs : List Request) (overrun : Option Talk) : Type 0 where
  pub pending : ArePending g image p reached es
  pub ahead : AreAhead image p reached es e.rank
  pub entry : IsEntry g image p e
  pub sound : IsSound (entry_view g) (runs_of image p) e
  pub alone : (f : Entry) → Contains es f → f.key ≢ e.key
  pub known : is_some e.witness ≡ true → Contains (points_of reached) e.key
  pub unknown : is_some e.witness ≡ false → (r : ReachedPoint) → Contains reached r → r.point ≢ e.key
  pub requests : AreFound g image p es e.rank qs
  pub others : (q : Request) → Contains qs q → request_point p q.state ≢ e.key
  pub covered : AreCovered g image p reached (e ∷ es) qs overrun
  pub right : KeepsRight image p overrun

-- the entry with inputs under which its condition is true; its point is noted where it had none
pub record IsConfirmedAs (g : Terms) (image : Image) (p : Plan) (before after : Holding) (e confirmed : Entry) : Type 0 where
  pub key : confirmed.key ≡ e.key
  pub rank : confirmed.rank ≡ e.rank
  pub state : confirmed.state ≡ e.state
  pub cond : confirmed.cond ≡ e.cond
  pub entry : IsEntry g image p confirmed
  pub found : is_some confirmed.witness ≡ true
  pub noted : after ≡ record before { reached = with_noted p e.key (newly confirmed.witness e.witness) before.reached }

-- an entry was confirmed; or its condition is true under no inputs
abbrev pub IsConfirmed : Terms → Image → Plan → Holding → Holding → Entry → Option Entry → Type 0
IsConfirmed g image p before after e (Some confirmed) = IsConfirmedAs g image p before after e confirmed
IsConfirmed g image p before after e None =
    ((i : Assignment) → IsAssignment i → bit_value i g e.cond ≢ true) × (after ≡ before) × (e.witness ≡ None)

-- the dialogue of the entry's inputs
abbrev pub IsDialogueOf : Plan → Entry → Talk → Type 0
IsDialogueOf p e d = (w : Assignment) → e.witness ≡ Some w → d ≡ dialogue_under p.kinds w p.power

-- the breach at the entry's point by the dialogue of its inputs; or want of memory
abbrev pub IsBreachOf : Plan → Entry → ExploreFault → Type 0
IsBreachOf p e (fault.Breach d at) = IsDialogueOf p e d × (at ≡ addr_at e.key.pc)
IsBreachOf p e fault.OutOfMemory = Unit {0}
IsBreachOf p e _ = ⊥

-- an overrun that was kept stays; where none was, it is now the dialogue of the entry's inputs
abbrev pub IsRemembered : Plan → Entry → Option Talk → Option Talk → Type 0
IsRemembered p e (Some d) after = after ≡ Some d
IsRemembered p e None (Some d) = IsDialogueOf p e d
IsRemembered p e None None = ⊥

-- What was done with an entry by what its chips do next: what comes of it was put among the others, or it waits, or
-- an overrun is kept.
pub record IsDone (image : Image) (p : Plan) (g h : Terms) (before after : List ReachedPoint) (es : List Entry) (e : Entry) (fs : List Entry) (old new : Option Talk) : Type 0 where
  pub pending : ArePending h image p after fs
  pub ahead : AreAhead image p after fs e.rank
  pub behind : StaysBehind image p es fs e.rank
  pub carries : Carries (runs_of image p) (entry_view g) es (entry_view h) fs
  pub arrives : class_at image p.pace e.key ≡ class.GoesOn → (i : Assignment) → IsAssignment i → (d : Chip) → Comes (runs_of image p) i d → IsAt (entry_view g) (runs_of image p) i e d → IsAtSome (entry_view h) (runs_of image p) fs i (stepped image d)
  pub stays : class_at image p.pace e.key ≢ class.Breaches
  pub kept : class_at image p.pace e.key ≡ class.Overruns → is_some new ≡ true
  pub right : KeepsRight image p new
  pub older : KeepsOlder old new
  pub count : length before + found_in fs ≤ length after + found_in es
  pub longer : length fs ≤ length es + 2

-- why a walk stops at an entry: a breach there, or the purse is full; or want of memory
abbrev pub IsStopped : Image → Plan → Holding → ExploreFault → Type 0
IsStopped image p before (fault.Conflicts asked steps) = ⊥
IsStopped image p before (fault.BadAnswer asked answer) = ⊥
IsStopped image p before f = IsCause image p true before f

-- the request state of an entry that has just raised a request, or none
pub record IsRequestAs (e : Entry) (q : Request) : Type 0 where
  pub state : q.state ≡ e.state
  pub cond : q.cond ≡ e.cond
  pub inputs : e.witness ≡ Some q.inputs
  pub stands : e.key.rqm ≡ true
  pub fresh : e.key.count ≡ 0

abbrev pub IsRequestOf : Entry → Option Request → Type 0
IsRequestOf e (Some q) = IsRequestAs e q
IsRequestOf e None = e.key.rqm ≡ true → e.key.count ≡ 0 → ⊥

-- the request state of the entry is listed at the end, where it has just raised a request
abbrev pub ListsRequest : Entry → List Request → List Request → Type 0
ListsRequest e old new =
    ((q : Request) × IsRequestAs e q × (new ≡ old ++ q ∷ [])) ⊎ (IsRequestOf e None × (new ≡ old))

-- how far a walk is from its end: each turn comes nearer
abbrev pub to_go : ℕ → List ReachedPoint → List Entry → ℕ
to_go most reached es = 3 * (most + found_in es - length reached) + length es

-- 1 where inputs of the entry are known, else 0
abbrev pub found_of : Entry → ℕ
found_of e = if is_some e.witness then 1 else 0

-- none is left, or a turn came nearer to the end
abbrev pub ComesNearer : ℕ → List ReachedPoint → List ReachedPoint → List Entry → List Entry → Bool → Type 0
ComesNearer most before after es fs true = to_go most after fs + 1 ≤ to_go most before es
ComesNearer most before after es fs false = fs ≡ []
