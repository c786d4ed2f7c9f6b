-- What the parts of a run do to the machine. No public clause cites this.
use Rattle.std.specs.Prelude.{◌≡◌, ℕ, zero, suc, ◌<◌, ◌≤◌, true, false, List, []}
use Rattle.wb_rom.specs.declared.images.Image.{Image}
use Rattle.wb_machine.specs.State.{State}
use Rattle.wb_machine.specs.Next.{next}
use Rattle.wb_port.specs.declared.accesses.Event.{Event}
use Rattle.wb_port.specs.declared.chips.Chip.{Chip}
use Rattle.wb_port.specs.Port.{rqm, byte_read, after_read, after_write}
use Rattle.wb_port.specs.Schedule.{after}
use Rattle.wb_script.specs.declared.items.Item.{Item}
use Rattle.wb_script.specs.declared.items.Item.TheVariants as item
use Rattle.wb_session.specs.declared.transcripts.Line.{Line}
use Rattle.wb_session.specs.declared.transcripts.Line.TheVariants.{Read, Wrote}
use Rattle.wb_session.specs.declared.transcripts.Ended.{Ended}
use Rattle.wb_session.specs.declared.transcripts.Ended.TheVariants as ended
use Rattle.wb_session.specs.declared.course.Stop.{Stop}
use Rattle.wb_session.specs.declared.course.Stop.TheVariants.{Early, Silent}
use Rattle.wb_session.specs.Transcript.{steps, events_of, requests_after, IsAnswer}

-- the machine after so many instructions
abbrev pub executed : Image → ℕ → State → State
executed image zero m = m
executed image (suc count) m = next image (executed image count m)

-- a request came after so many instructions, and not before
pub record Comes (image : Image) (most : ℕ) (m m' : State) (count : ℕ) : Type 0 where
  pub within : count ≤ most
  pub after : m' ≡ executed image count m
  pub stands : rqm m' ≡ true
  pub first : (fewer : ℕ) → fewer < count → rqm (executed image fewer m) ≡ false

-- no request came within so many instructions
pub record StaysSilent (image : Image) (most : ℕ) (m m' : State) : Type 0 where
  pub after : m' ≡ executed image most m
  pub silent : (count : ℕ) → count ≤ most → rqm (executed image count m) ≡ false

-- a byte was read where a request stood
abbrev pub Reads : State → State → Line → Type 0
Reads m m' (Read byte) = (rqm m ≡ true) × (m' ≡ after_read m) × (byte ≡ byte_read m)
Reads m m' _ = ⊥

-- the byte was written where a request stood
abbrev pub Writes : ℕ → State → State → Line → Type 0
Writes byte m m' (Wrote written) = (rqm m ≡ true) × (m' ≡ after_write byte m) × (written ≡ byte)
Writes byte m m' _ = ⊥

-- no request stood, and nothing was done
abbrev pub NoRequest : State → State → Stop → Type 0
NoRequest m m' Early = (rqm m ≡ false) × (m' ≡ m)
NoRequest m m' Silent = ⊥

-- an item was answered by a line
pub record Answered (image : Image) (chip : Chip) (item : Item) (m' : State) (line : Line) : Type 0 where
  pub answer : IsAnswer image chip item line
  pub machine : m' ≡ (after image (events_of line) chip).machine

-- the end of a transcript at the item of this number
abbrev pub ended_at : Stop → ℕ → Ended
ended_at Early number = ended.Early number
ended_at Silent number = ended.Silent number

-- why an item has no line
abbrev pub IsStop : Image → Chip → Item → Stop → Type 0
IsStop image chip item.Read Early = rqm chip.machine ≡ false
IsStop image chip (item.Write _) Early = rqm chip.machine ≡ false
IsStop image chip (item.Wait most) Silent = (count : ℕ) → count ≤ most → requests_after image chip count ≡ false
IsStop image chip _ _ = ⊥

-- the events of an item without a line
abbrev pub stop_events : Item → Stop → List Event
stop_events (item.Wait most) Silent = steps most
stop_events _ _ = []

-- an item ended the run
pub record Stopped (image : Image) (chip : Chip) (item : Item) (m' : State) (stop : Stop) : Type 0 where
  pub cause : IsStop image chip item stop
  pub machine : m' ≡ (after image (stop_events item stop) chip).machine
