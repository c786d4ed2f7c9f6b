-- What a script comes to on an image: a relation between the items of the script and the lines of its
-- transcript, over the schedule of events that the lines stand for.
use Rattle.std.specs.Prelude.{◌≡◌, ℕ, ◌+◌, ◌<◌, ◌≤◌, Bool, true, false, Some, List, [], ◌∷◌, ◌++◌, length, drop, replicate}
use Rattle.std.specs.List.{flat_map}
use Rattle.wb_rom.specs.declared.images.Image.{Image}
use Rattle.wb_port.specs.declared.accesses.Access.TheVariants as access
use Rattle.wb_port.specs.declared.accesses.Event.{Event}
use Rattle.wb_port.specs.declared.accesses.Event.TheVariants as event
use Rattle.wb_port.specs.declared.chips.Chip.{Chip}
use Rattle.wb_port.specs.Port.{rqm}
use Rattle.wb_port.specs.Schedule.{powered, after, reply_of}
use Rattle.wb_script.specs.declared.items.Item.{Item}
use Rattle.wb_script.specs.declared.items.Item.TheVariants as item
use Rattle.wb_session.specs.declared.transcripts.Line.{Line}
use Rattle.wb_session.specs.declared.transcripts.Line.TheVariants as line
use Rattle.wb_session.specs.declared.transcripts.Ended.{Ended}
use Rattle.wb_session.specs.declared.transcripts.Ended.TheVariants as ended
use Rattle.wb_session.specs.declared.transcripts.Transcript.{Transcript}

-- so many instructions
abbrev pub steps : ℕ → List Event
steps count = replicate count event.Step

-- the events that a line stands for
abbrev pub events_of : Line → List Event
events_of (line.Waited count) = steps count
events_of (line.Stepped count) = steps count
events_of (line.Status byte) = event.Host access.Status ∷ []
events_of (line.Read byte) = event.Host access.Read ∷ []
events_of (line.Wrote byte) = event.Host (access.Write byte) ∷ []

-- the schedule that lines stand for
abbrev pub schedule : List Line → List Event
schedule lines = flat_map events_of lines

-- the chip where a script begins: at power-up, with zeros in its RAM
unfoldable pub fresh : Chip
fresh = powered (replicate 256 0)

-- whether a request stands after so many more instructions
abbrev pub requests_after : Image → Chip → ℕ → Bool
requests_after image chip count = rqm (after image (steps count) chip).machine

-- the line answers the item, which finds the chip in this state
abbrev pub IsAnswer : Image → Chip → Item → Line → Type 0
IsAnswer image chip (item.Wait most) (line.Waited count) =
    (count ≤ most) × (requests_after image chip count ≡ true)
    × ((fewer : ℕ) → fewer < count → requests_after image chip fewer ≡ false)
IsAnswer image chip (item.Step count) (line.Stepped executed) = executed ≡ count
IsAnswer image chip item.Status (line.Status byte) =
    reply_of (event.Host access.Status) chip ≡ Some byte
IsAnswer image chip item.Read (line.Read byte) =
    (rqm chip.machine ≡ true) × (reply_of (event.Host access.Read) chip ≡ Some byte)
IsAnswer image chip (item.Write byte) (line.Wrote written) =
    (rqm chip.machine ≡ true) × (written ≡ byte)
IsAnswer image chip _ _ = ⊥

-- the lines answer the first items one by one, each where the schedule of the lines before it leaves the chip
abbrev pub AreAnswers : Image → Chip → List Item → List Line → Type 0
AreAnswers image chip items [] = Unit {0}
AreAnswers image chip [] (line ∷ lines) = ⊥
AreAnswers image chip (item ∷ items) (line ∷ lines) =
    IsAnswer image chip item line × AreAnswers image (after image (events_of line) chip) items lines

-- how a transcript ends, where so many items are answered, these are left, and the chip is in this state:
-- nothing is left, a data transfer finds no request, or none comes within the instructions of a wait.
-- Items are numbered from 1
abbrev pub IsEnd : Image → Chip → ℕ → List Item → Ended → Type 0
IsEnd image chip answered [] ended.Done = Unit {0}
IsEnd image chip answered (item.Read ∷ _) (ended.Early number) =
    (number ≡ answered + 1) × (rqm chip.machine ≡ false)
IsEnd image chip answered (item.Write _ ∷ _) (ended.Early number) =
    (number ≡ answered + 1) × (rqm chip.machine ≡ false)
IsEnd image chip answered (item.Wait most ∷ _) (ended.Silent number) =
    (number ≡ answered + 1)
    × ((count : ℕ) → count ≤ most → requests_after image chip count ≡ false)
IsEnd image chip answered _ _ = ⊥

-- the transcript of these items on this image
pub record IsTranscript (image : Image) (items : List Item) (t : Transcript) : Type 0 where
  pub answers : AreAnswers image fresh items t.lines
  pub end : IsEnd image (after image (schedule t.lines) fresh) (length t.lines) (drop (length t.lines) items) t.ended

-- the instructions of a wait that ended with no request, where these items were left
abbrev pub silent_steps : List Item → Ended → List Event
silent_steps (item.Wait most ∷ _) (ended.Silent _) = steps most
silent_steps _ _ = []

-- all events that the chip makes: those of the schedule, and then the instructions of a wait that ended so
abbrev pub events_made : List Item → Transcript → List Event
events_made items t = schedule t.lines ++ silent_steps (drop (length t.lines) items) t.ended
