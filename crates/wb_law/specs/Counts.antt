-- A chip to which events are applied one by one, whose count is held at the greatest number of 64 bits.
use Rattle.std.specs.Prelude.{◌≡◌, ℕ, ◌+◌, ◌^◌, ◌<◌, ◌≤◌, List, [], ◌∷◌}
use Rattle.wb_rom.specs.declared.images.Image.{Image}
use Rattle.wb_port.specs.declared.accesses.Event.{Event}
use Rattle.wb_port.specs.declared.accesses.Event.TheVariants as event
use Rattle.wb_port.specs.declared.chips.Chip.{Chip}
use Rattle.wb_port.specs.Monitor.{capped}
use Rattle.wb_port.specs.Schedule.{powered, applied, after}

-- the chip to which the events of a schedule were applied one by one, its count held at the greatest number
-- of 64 bits after each
abbrev pub applied_each : Image → List Event → Chip → Chip
applied_each image [] c = c
applied_each image (e ∷ s) c = applied_each image s (capped (applied image e c))

-- Applying events one by one comes to the chip after the schedule, but for a count past 64 bits.
abbrev pub AppliedChipsFollow : Type 0
AppliedChipsFollow =
    (image : Image) (s : List Event) (c : Chip)
    → capped (applied_each image s c) ≡ capped (after image s c)

-- how many instructions a schedule executes
abbrev pub steps_of : List Event → ℕ
steps_of [] = 0
steps_of (event.Step ∷ s) = 1 + steps_of s
steps_of (event.Host _ ∷ s) = steps_of s

-- A chip to which the events of a schedule were applied one by one from power-up is the chip after the schedule,
-- with its count held at the greatest number of 64 bits.
abbrev pub AppliedChipsAreHeldAtTheGreatestCount : Type 0
AppliedChipsAreHeldAtTheGreatestCount =
    (image : Image) (start : List ℕ) (s : List Event)
    → applied_each image s (powered start) ≡ capped (after image s (powered start))

-- A schedule raises the count by no more than the instructions that it executes.
abbrev pub CountsAreAtMostTheSteps : Type 0
CountsAreAtMostTheSteps =
    (image : Image) (s : List Event) (c : Chip)
    → (after image s c).monitor.count ≤ c.monitor.count + steps_of s

-- So below 2^64 instructions nothing is held: the chip is that after the schedule.
abbrev pub ShortSchedulesHoldNothing : Type 0
ShortSchedulesHoldNothing =
    (image : Image) (start : List ℕ) (s : List Event)
    → steps_of s < 2 ^ 64 → applied_each image s (powered start) ≡ after image s (powered start)
