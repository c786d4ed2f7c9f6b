-- Whole runs: how they end, and how they go on from one access to the next.
use Rattle.std.specs.Prelude.{◌≡◌, ◌↔◌, ℕ, Bool, true, false, List, [], ◌∷◌, ◌++◌, ◌⊎◌}
use Rattle.wb_rom.specs.declared.images.Image.{Image}
use Rattle.wb_port.specs.declared.accesses.Access.{Access}
use Rattle.wb_port.specs.declared.chips.Chip.{Chip}
use Rattle.wb_port.specs.declared.runs.Run.{Run}
use Rattle.wb_port.specs.declared.runs.Run.TheVariants.{Answered}
use Rattle.wb_port.specs.Schedule.{powered}
use Rattle.wb_port.specs.Talk.{Talk, dialogue, transfers_of}
use Rattle.wb_port.specs.Run.{EndsAs}
use Rattle.wb_law.specs.Course.{StopsAs, Ran, Given, StopsBefore, StopsAfter, IsStop}

-- A run has one end at most.
abbrev pub RunsHaveOneEnd : Type 0
RunsHaveOneEnd =
    (image : Image) (k : ℕ) (held : Bool) (d : Talk) (x y : Run)
    → EndsAs image k held d x → EndsAs image k held d y → x ≡ y

-- A run ends as its course says.
abbrev pub RunsFollowTheirCourse : Type 0
RunsFollowTheirCourse =
    (image : Image) (k : ℕ) (held : Bool) (d : Talk) (end : Run)
    → EndsAs image k held d end ↔ Ran image k held d.accesses (powered d.start) [] end

-- A plain run is answered exactly where all of its accesses are given.
abbrev pub AnsweredRunsAreGiven : Type 0
AnsweredRunsAreGiven =
    (image : Image) (k : ℕ) (start : List ℕ) (accesses : List Access)
    → ((replies : List ℕ) × EndsAs image k false (dialogue start accesses) (Answered replies))
    ↔ ((b : Chip) × Given image k accesses (powered start) b)

-- A held run overruns or breaches before its last access, or after it.
abbrev pub HeldRunsStopBeforeOrAfter : Type 0
HeldRunsStopBeforeOrAfter =
    (image : Image) (k : ℕ) (start : List ℕ) (accesses : List Access) (end : Run)
    → IsStop end
    → EndsAs image k true (dialogue start accesses) end
    ↔ (StopsBefore image k accesses (powered start) end ⊎ StopsAfter image k accesses (powered start) end)

-- With one access more, a run stops before its last access where it stopped before or on the way to a request.
abbrev pub LongerRunsStopBefore : Type 0
LongerRunsStopBefore =
    (image : Image) (k : ℕ) (front : List Access) (x : Access) (c : Chip) (end : Run)
    → StopsBefore image k (front ++ x ∷ []) c end
    ↔ (StopsBefore image k front c end
    ⊎ ((b : Chip) × Given image k front c b × StopsAs image k false b end))

-- A held run that stops before its last access stops so without this access too.
abbrev pub ShorterRunsStopToo : Type 0
ShorterRunsStopToo =
    (image : Image) (k : ℕ) (start : List ℕ) (front : List Access) (x : Access) (end : Run)
    → StopsBefore image k (front ++ x ∷ []) (powered start) end
    → EndsAs image k true (dialogue start front) end

-- Leaving status reads out of a dialogue changes neither an overrun nor a breach of its held run.
abbrev pub StatusReadsStopNothing : Type 0
StatusReadsStopNothing =
    (image : Image) (k : ℕ) (start : List ℕ) (accesses : List Access) (end : Run)
    → IsStop end
    → EndsAs image k true (dialogue start accesses) end
    ↔ EndsAs image k true (dialogue start (transfers_of accesses)) end
