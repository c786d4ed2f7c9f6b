-- The course of a run, access by access, without counting its turns.
--
-- Between two accesses the chip strides on alone: it rests where the next access finds a request, or where a
-- chip that is held waits at a poll, and it stops where its pace is used up or its next instruction is a breach.
use Rattle.std.specs.Prelude.{◌≡◌, ℕ, zero, suc, Bool, true, false, ◌==◌, if◌then◌else◌, Option, Some, None, List, [], ◌∷◌, ◌++◌, ◌⊎◌}
use Rattle.std.specs.Option.{option_to_list}
use Rattle.wb_word.specs.Encoding.{addr_at}
use Rattle.wb_rom.specs.declared.images.Image.{Image}
use Rattle.wb_port.specs.declared.accesses.Access.{Access}
use Rattle.wb_port.specs.declared.accesses.Event.TheVariants as event
use Rattle.wb_port.specs.declared.chips.Chip.{Chip}
use Rattle.wb_port.specs.declared.runs.Run.{Run}
use Rattle.wb_port.specs.declared.runs.Run.TheVariants.{Answered, Overrun, Breach}
use Rattle.wb_port.specs.Port.{rqm, access_reply}
use Rattle.wb_port.specs.Monitor.{place, is_breach, stepped}
use Rattle.wb_port.specs.Schedule.{applied}
use Rattle.wb_port.specs.Run.{is_waiting}

-- what a chip strides to: a request, for the next access; or, where it is held, a poll at which it waits
abbrev pub rests : Image → Bool → Chip → Bool
rests image false c = rqm c.machine
rests image true c = is_waiting image c

-- the end of a run whose chip can't execute its next instruction, if it can't
unfoldable pub stop_of : Image → ℕ → Chip → Option Run
stop_of image k c =
    if c.monitor.count == k
    then Some Overrun
    else if is_breach image c then Some (Breach (addr_at (place c))) else None

-- the chip after the instruction that it executes, if it does
abbrev pub unless_stopped : Image → Option Run → Chip → Chip
unless_stopped image (Some _) c = c
unless_stopped image None c = stepped image c

-- one stride: an instruction, unless the chip rests or stops
unfoldable pub stride : Image → ℕ → Bool → Chip → Chip
stride image k held c = if rests image held c then c else unless_stopped image (stop_of image k c) c

-- the chip after so many strides
abbrev pub strides : Image → ℕ → Bool → ℕ → Chip → Chip
strides image k held zero c = c
strides image k held (suc j) c = strides image k held j (stride image k held c)

-- from the first chip the strides come to the second, which rests there
pub record RestsAt (image : Image) (k : ℕ) (held : Bool) (c d : Chip) : Type 0 where
  pub steps : ℕ
  pub comes : strides image k held steps c ≡ d
  pub rest : rests image held d ≡ true

-- the strides from the chip come to where the run ends so
pub record StopsAs (image : Image) (k : ℕ) (held : Bool) (c : Chip) (end : Run) : Type 0 where
  pub at : Chip
  pub steps : ℕ
  pub comes : strides image k held steps c ≡ at
  pub works : rests image held at ≡ false
  pub stop : stop_of image k at ≡ Some end

-- How a run ends, of the chip, the accesses that are left and the bytes that were said. While an access is
-- left, the chip comes to a request, and the run goes on from there with the access given, or it stops before.
-- At the end a plain run is answered; a held one is answered where the chip comes to wait, or it stops before.
abbrev pub Ran : Image → ℕ → Bool → List Access → Chip → List ℕ → Run → Type 0
Ran image k false [] c said end = end ≡ Answered said
Ran image k true [] c said end =
    ((d : Chip) × RestsAt image k true c d × (end ≡ Answered said)) ⊎ StopsAs image k true c end
Ran image k held (a ∷ rest) c said end =
    ((d : Chip)
    × RestsAt image k false c d
    × Ran image k held rest (applied image (event.Host a) d)
    (said ++ option_to_list (access_reply a d.machine)) end)
    ⊎ StopsAs image k false c end

-- from the first chip, the second is the one right after the last of these accesses, each given at a request
abbrev pub Given : Image → ℕ → List Access → Chip → Chip → Type 0
Given image k [] c d = c ≡ d
Given image k (a ∷ rest) c d =
    (b : Chip) × RestsAt image k false c b × Given image k rest (applied image (event.Host a) b) d

-- the second chip has the first request after these accesses
pub record AsksAfter (image : Image) (k : ℕ) (accesses : List Access) (c d : Chip) : Type 0 where
  pub after : Chip
  pub given : Given image k accesses c after
  pub request : RestsAt image k false after d

-- the run stops so while one of these accesses isn't given yet
abbrev pub StopsBefore : Image → ℕ → List Access → Chip → Run → Type 0
StopsBefore image k [] c end = ⊥
StopsBefore image k (a ∷ rest) c end =
    StopsAs image k false c end
    ⊎ ((b : Chip)
    × RestsAt image k false c b
    × StopsBefore image k rest (applied image (event.Host a) b) end)

-- the held run stops so after the last of these accesses
pub record StopsAfter (image : Image) (k : ℕ) (accesses : List Access) (c : Chip) (end : Run) : Type 0 where
  pub after : Chip
  pub given : Given image k accesses c after
  pub stops : StopsAs image k true after end

-- the end is no answer
abbrev pub IsStop : Run → Type 0
IsStop (Answered _) = ⊥
IsStop Overrun = Unit {0}
IsStop (Breach _) = Unit {0}
