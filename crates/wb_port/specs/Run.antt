-- The run of a dialogue: a host that gives each access as soon as a request stands.
--
-- A run is a row of moments. A plain run ends when no access is left. A held run then goes on until the chip
-- waits at a poll, since a chip may misbehave while its last request still stands.
use Rattle.std.specs.Prelude.{◌≡◌, ℕ, zero, suc, ◌+◌, Bool, true, false, ◌&&◌, ◌==◌, if◌then◌else◌, List, [], ◌∷◌, ◌++◌}
use Rattle.std.specs.Option.{option_to_list}
use Rattle.wb_word.specs.Encoding.{addr_at}
use Rattle.wb_rom.specs.declared.images.Image.{Image}
use Rattle.wb_port.specs.declared.accesses.Access.{Access}
use Rattle.wb_port.specs.declared.accesses.Event.TheVariants as event
use Rattle.wb_port.specs.declared.chips.Chip.{Chip}
use Rattle.wb_port.specs.declared.runs.Run.{Run}
use Rattle.wb_port.specs.declared.runs.Run.TheVariants.{Answered, Overrun, Breach}
use Rattle.wb_port.specs.Port.{rqm, access_reply}
use Rattle.wb_port.specs.Wait.{is_poll}
use Rattle.wb_port.specs.Monitor.{place, is_breach, stepped}
use Rattle.wb_port.specs.Schedule.{powered, applied}
use Rattle.wb_port.specs.Talk.{Talk}

-- a moment of a run: the chip, the accesses that were given and those that are left, the bytes said so far
pub record Moment : Type 0 where
  pub chip : Chip
  pub given : List Access
  pub left : List Access
  pub said : List ℕ

-- what comes after a moment: an access is given, an instruction is executed, or the run ends
pub data Turn : Type 0 where
  Gives : Access → Moment → Turn
  Steps : Moment → Turn
  Ends : Run → Turn

-- the moment after the next access was given
abbrev pub give : Image → Access → List Access → Moment → Moment
give image a rest m =
    record {
      chip = applied image (event.Host a) m.chip;
      given = m.given ++ a ∷ [];
      left = rest;
      said = m.said ++ option_to_list (access_reply a m.chip.machine);
    }

-- the chip executes one instruction, unless its count is k or the next word is a breach
unfoldable pub go : Image → ℕ → Moment → Turn
go image k m =
    if m.chip.monitor.count == k
    then Ends Overrun
    else if is_breach image m.chip
    then Ends (Breach (addr_at (place m.chip)))
    else Steps (record m { chip = stepped image m.chip })

-- the chip waits at a poll while its request stands
abbrev pub is_waiting : Image → Chip → Bool
is_waiting image c = rqm c.machine && is_poll image (place c)

-- what comes where these accesses are left: where a request stands the next one is given
abbrev pub turn_at : Image → ℕ → Bool → List Access → Moment → Turn
turn_at image k held (a ∷ rest) m =
    if rqm m.chip.machine then Gives a (give image a rest m) else go image k m
turn_at image k false [] m = Ends (Answered m.said)
turn_at image k true [] m =
    if is_waiting image m.chip then Ends (Answered m.said) else go image k m

-- what comes after a moment of a plain or a held run at pace k
unfoldable pub turn : Image → ℕ → Bool → Moment → Turn
turn image k held m = turn_at image k held m.left m

-- the moment that comes; the last one of a run stays
abbrev pub goes_on : Turn → Moment → Moment
goes_on (Gives _ n) m = n
goes_on (Steps n) m = n
goes_on (Ends _) m = m

-- the moment after so many turns
abbrev pub turns : Image → ℕ → Bool → ℕ → Moment → Moment
turns image k held zero m = m
turns image k held (suc j) m = turns image k held j (goes_on (turn image k held m) m)

-- how many instructions a turn executes
abbrev pub executed : Turn → ℕ
executed (Gives _ _) = 0
executed (Steps _) = 1
executed (Ends _) = 0

-- how many instructions so many turns execute
abbrev pub instructions : Image → ℕ → Bool → ℕ → Moment → ℕ
instructions image k held zero m = 0
instructions image k held (suc j) m =
    executed (turn image k held m)
    + instructions image k held j (goes_on (turn image k held m) m)

-- the moment at power-up, before the accesses of a dialogue
abbrev pub beginning : Talk → Moment
beginning d = record { chip = powered d.start; given = []; left = d.accesses; said = [] }

-- the run from a moment comes to this end
abbrev pub EndsFrom : Image → ℕ → Bool → Moment → Run → Type 0
EndsFrom image k held m end = (j : ℕ) × (turn image k held (turns image k held j m) ≡ Ends end)

-- the run of the dialogue comes to this end
abbrev pub EndsAs : Image → ℕ → Bool → Talk → Run → Type 0
EndsAs image k held d end = EndsFrom image k held (beginning d) end
