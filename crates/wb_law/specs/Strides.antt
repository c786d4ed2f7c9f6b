-- Strides: where they lead, that they lead there in one way, and how they raise the rank of a held chip.
-- True of every image, every pace and every chip.
use Rattle.std.specs.Prelude.{◌≡◌, ℕ, ◌+◌, ◌≤◌, Bool, true, false, Some, None, ◌⊎◌}
use Rattle.wb_rom.specs.declared.images.Image.{Image}
use Rattle.wb_port.specs.declared.chips.Chip.{Chip}
use Rattle.wb_port.specs.declared.runs.Run.{Run}
use Rattle.wb_port.specs.Monitor.{stepped}
use Rattle.wb_port.specs.Rank.{rank_of}
use Rattle.wb_law.specs.Course.{rests, stop_of, stride, strides, RestsAt, StopsAs}
use Rattle.wb_law.specs.Points.{IsInPace}

-- Strides add up.
abbrev pub StridesAddUp : Type 0
StridesAddUp =
    (image : Image) (k : ℕ) (held : Bool) (i j : ℕ) (c : Chip)
    → strides image k held (i + j) c ≡ strides image k held j (strides image k held i c)

-- A chip that rests stays, for any number of strides.
abbrev pub RestingChipsStay : Type 0
RestingChipsStay =
    (image : Image) (k : ℕ) (held : Bool) (j : ℕ) (c : Chip)
    → rests image held c ≡ true → strides image k held j c ≡ c

-- A chip that can't execute its next instruction stays, for any number of strides.
abbrev pub StoppedChipsStay : Type 0
StoppedChipsStay =
    (image : Image) (k : ℕ) (held : Bool) (j : ℕ) (c : Chip) (end : Run)
    → stop_of image k c ≡ Some end → strides image k held j c ≡ c

-- The stride of every other chip is its next instruction.
abbrev pub OtherStridesAreInstructions : Type 0
OtherStridesAreInstructions =
    (image : Image) (k : ℕ) (held : Bool) (c : Chip)
    → rests image held c ≡ false → stop_of image k c ≡ None → stride image k held c ≡ stepped image c

-- the first chip executes its next instruction, and strides lead on from there to the second
pub record LeadsOn (image : Image) (k : ℕ) (held : Bool) (c d : Chip) : Type 0 where
  pub works : rests image held c ≡ false
  pub unstopped : stop_of image k c ≡ None
  pub steps : ℕ
  pub comes : strides image k held steps (stepped image c) ≡ d

-- Strides that lead to another chip begin with an instruction.
abbrev pub StridesBeginWithAnInstruction : Type 0
StridesBeginWithAnInstruction =
    (image : Image) (k : ℕ) (held : Bool) (j : ℕ) (c d : Chip)
    → strides image k held j c ≡ d → (c ≡ d) ⊎ LeadsOn image k held c d

-- strides lead from the first chip to the second
abbrev pub LeadsTo : Image → ℕ → Bool → Chip → Chip → Type 0
LeadsTo image k held c d = (j : ℕ) × (strides image k held j c ≡ d)

-- Of two chips to which strides lead from one, strides lead from the one to the other.
abbrev pub StridesAreOneWalk : Type 0
StridesAreOneWalk =
    (image : Image) (k : ℕ) (held : Bool) (b c d : Chip)
    → LeadsTo image k held b c → LeadsTo image k held b d
    → LeadsTo image k held c d ⊎ LeadsTo image k held d c

-- A chip comes to rest at one chip.
abbrev pub RestsAreOne : Type 0
RestsAreOne =
    (image : Image) (k : ℕ) (held : Bool) (c d e : Chip)
    → RestsAt image k held c d → RestsAt image k held c e → d ≡ e

-- A chip stops in one way.
abbrev pub StopsAreOne : Type 0
StopsAreOne =
    (image : Image) (k : ℕ) (held : Bool) (c : Chip) (x y : Run)
    → StopsAs image k held c x → StopsAs image k held c y → x ≡ y

-- A chip that comes to rest doesn't stop.
abbrev pub RestingChipsDontStop : Type 0
RestingChipsDontStop =
    (image : Image) (k : ℕ) (held : Bool) (c d : Chip) (end : Run)
    → RestsAt image k held c d → StopsAs image k held c end → ⊥

-- A chip in pace comes to rest, or it stops.
abbrev pub ChipsRestOrStop : Type 0
ChipsRestOrStop =
    (image : Image) (k : ℕ) (c : Chip)
    → IsInPace k c
    → ((d : Chip) × RestsAt image k true c d) ⊎ ((end : Run) × StopsAs image k true c end)

-- Strides keep a chip in pace.
abbrev pub StridesKeepPace : Type 0
StridesKeepPace =
    (image : Image) (k : ℕ) (held : Bool) (j : ℕ) (c : Chip)
    → IsInPace k c → IsInPace k (strides image k held j c)

-- No strides of a held chip lower its rank.
abbrev pub RanksNeverFall : Type 0
RanksNeverFall =
    (image : Image) (k j : ℕ) (c : Chip)
    → IsInPace k c → rank_of image k c ≤ rank_of image k (strides image k true j c)

-- Two chips of one rank to which strides lead from one held chip are one.
abbrev pub EqualRanksAreOneChip : Type 0
EqualRanksAreOneChip =
    (image : Image) (k : ℕ) (b c d : Chip)
    → IsInPace k b
    → LeadsTo image k true b c → LeadsTo image k true b d
    → rank_of image k c ≡ rank_of image k d → c ≡ d
