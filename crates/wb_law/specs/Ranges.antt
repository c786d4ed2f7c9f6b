-- The parts of a chip stay in their ranges, whatever host and chip do.
use Rattle.std.specs.Prelude.{ℕ, Bool, List, All}
use Rattle.wb_rom.specs.declared.images.Image.{Image}
use Rattle.wb_machine.specs.State.{State, IsState, IsStart}
use Rattle.wb_port.specs.declared.accesses.Access.{Access}
use Rattle.wb_port.specs.declared.accesses.Event.{Event}
use Rattle.wb_port.specs.declared.accesses.Event.TheVariants as event
use Rattle.wb_port.specs.declared.chips.Chip.{Chip}
use Rattle.wb_port.specs.Port.{accessed}
use Rattle.wb_port.specs.Schedule.{powered, after}
use Rattle.wb_port.specs.Talk.{Talk, IsByteAccess, IsTalk}
use Rattle.wb_port.specs.Run.{turns, beginning}
use Rattle.wb_law.specs.Course.{strides, Given}

-- An access keeps the ranges of all parts.
abbrev pub AccessesKeepRanges : Type 0
AccessesKeepRanges = (a : Access) (m : State) → IsByteAccess a → IsState m → IsState (accessed a m)

-- what the event writes, if it does, is a byte
abbrev pub IsByteEvent : Event → Type 0
IsByteEvent event.Step = Unit {0}
IsByteEvent (event.Host a) = IsByteAccess a

-- Every schedule keeps the ranges of all parts.
abbrev pub SchedulesKeepRanges : Type 0
SchedulesKeepRanges =
    (image : Image) (c : Chip) (s : List Event)
    → All IsByteEvent s → IsState c.machine → IsState (after image s c).machine

-- At every moment of every schedule, the parts of the chip are in their ranges.
abbrev pub MomentsAreInRange : Type 0
MomentsAreInRange =
    (image : Image) (start : List ℕ) (s : List Event)
    → IsStart start → All IsByteEvent s → IsState (after image s (powered start)).machine

-- At every moment of every run, the parts of the chip are in their ranges.
abbrev pub RunsKeepRanges : Type 0
RunsKeepRanges =
    (image : Image) (k : ℕ) (held : Bool) (d : Talk) (j : ℕ)
    → IsTalk d → IsState (turns image k held j (beginning d)).chip.machine

-- A chip that strides on after some accesses is in its ranges.
abbrev pub StridingChipsStayInRange : Type 0
StridingChipsStayInRange =
    (image : Image) (k : ℕ) (held : Bool) (start : List ℕ) (accesses : List Access) (b : Chip) (j : ℕ)
    → IsStart start → All IsByteAccess accesses
    → Given image k accesses (powered start) b → IsState (strides image k held j b).machine
