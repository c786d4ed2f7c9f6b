-- Where held runs are answered.
use Rattle.std.specs.Prelude.{◌≡◌, ◌↔◌, ℕ, true, false, List}
use Rattle.wb_rom.specs.declared.images.Image.{Image}
use Rattle.wb_port.specs.declared.accesses.Access.{Access}
use Rattle.wb_port.specs.declared.chips.Chip.{Chip}
use Rattle.wb_port.specs.declared.runs.Run.TheVariants.{Answered}
use Rattle.wb_port.specs.Schedule.{powered}
use Rattle.wb_port.specs.Run.{EndsAs}
use Rattle.wb_port.specs.Talk.{dialogue}
use Rattle.wb_law.specs.Course.{RestsAt, Given}

-- all of these accesses are given, and the held chip then comes to wait at a poll
pub record WaitsAfter (image : Image) (k : ℕ) (accesses : List Access) (c d : Chip) : Type 0 where
  pub after : Chip
  pub given : Given image k accesses c after
  pub waits : RestsAt image k true after d

-- the replies are those of the plain run, and the held chip comes to wait at a poll
pub record IsAnsweredAtAPoll (image : Image) (k : ℕ) (start : List ℕ) (accesses : List Access) (replies : List ℕ) : Type 0 where
  pub answered : EndsAs image k false (dialogue start accesses) (Answered replies)
  pub waiting : Chip
  pub waits : WaitsAfter image k accesses (powered start) waiting

-- A held run is answered exactly where its plain run is and, all accesses given, the chip comes to wait at a poll.
abbrev pub HeldRunsAreAnsweredAtPolls : Type 0
HeldRunsAreAnsweredAtPolls =
    (image : Image) (k : ℕ) (start : List ℕ) (accesses : List Access) (replies : List ℕ)
    → EndsAs image k true (dialogue start accesses) (Answered replies)
    ↔ IsAnsweredAtAPoll image k start accesses replies

-- A held chip comes to wait at one chip after some accesses.
abbrev pub WaitsAreOne : Type 0
WaitsAreOne =
    (image : Image) (k : ℕ) (accesses : List Access) (c d e : Chip)
    → WaitsAfter image k accesses c d → WaitsAfter image k accesses c e → d ≡ e
