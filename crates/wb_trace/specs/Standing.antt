-- What stands after some moves by hand: a list of moves, and how many of them can be taken back. The two chips
-- follow from that list alone: each has made its events, from reset on.
use Rattle.std.specs.Prelude.{ℕ, ◌+◌, ◌-◌, ◌==◌, min, ◌&&◌, Bool, not, if◌then◌else◌, Option, Some, None, List, [], ◌∷◌, ◌++◌, length, take, replicate}
use Rattle.std.specs.List.{flat_map}
use Rattle.wb_word.specs.Encoding.{addr_at}
use Rattle.wb_word.specs.declared.sides.Side.{Side}
use Rattle.wb_word.specs.declared.sides.Side.TheVariants as side
use Rattle.wb_rom.specs.declared.images.Image.{Image}
use Rattle.wb_port.specs.declared.accesses.Access.TheVariants as access
use Rattle.wb_port.specs.declared.accesses.Event.{Event}
use Rattle.wb_port.specs.declared.accesses.Event.TheVariants as event
use Rattle.wb_port.specs.declared.chips.Chip.{Chip}
use Rattle.wb_port.specs.Port.{rqm, status_byte, byte_read}
use Rattle.wb_port.specs.Monitor.{place, capped}
use Rattle.wb_port.specs.Schedule.{powered, after}
use Rattle.wb_trace.specs.declared.moves.Move.{Move}
use Rattle.wb_trace.specs.declared.moves.Move.TheVariants as move
use Rattle.wb_trace.specs.declared.answers.Moved.{Moved}
use Rattle.wb_trace.specs.declared.answers.Moved.TheVariants as moved
use Rattle.wb_trace.specs.declared.answers.Line.{Line}
use Rattle.wb_trace.specs.declared.chips.Chips.{Chips}

-- the moves that stand, and how many of them can be taken back
pub record Standing : Type 0 where
  pub moves : List Move
  pub undoable : ℕ

-- before the first move
abbrev pub begun : Standing
begun = record { moves = []; undoable = 0 }

-- the events of a side by a move: an instruction of that side, or a transfer, which both sides make
abbrev pub events : Side → Move → List Event
events side.A move.StepA = event.Step ∷ []
events side.B move.StepB = event.Step ∷ []
events _ move.Read = event.Host access.Read ∷ []
events _ (move.Write byte) = event.Host (access.Write byte) ∷ []
events _ _ = []

-- a side's chip at reset
abbrev pub fresh : Chip
fresh = powered (replicate 256 0)

-- a side's chip after the moves that stand
abbrev pub chip_after : Image → Side → List Move → Chip
chip_after image side moves = after image (flat_map (events side) moves) fresh

-- both chips, each with an observer that counts no further than 64 bits allow
abbrev pub chips_after : Image → Image → List Move → Chips
chips_after a b moves =
    record { a = capped (chip_after a side.A moves); b = capped (chip_after b side.B moves) }

-- a request stands on both sides
abbrev pub are_ready : Chips → Bool
are_ready chips = rqm chips.a.machine && rqm chips.b.machine

-- one more move stands, and at most depth moves can be taken back
abbrev pub added : ℕ → Move → Standing → Standing
added depth move s =
    record { moves = s.moves ++ (move ∷ []); undoable = min (s.undoable + 1) depth }

-- the last move no longer stands, where one can be taken back
abbrev pub taken_back : Standing → Standing
taken_back s =
    if s.undoable == 0 then s
    else record { moves = take (length s.moves - 1) s.moves; undoable = s.undoable - 1 }

-- what stands after one more move: a step, a transfer for which both sides are ready, or a move taken back;
-- all else changes nothing
abbrev pub after_move : Image → Image → ℕ → Move → Standing → Standing
after_move a b depth move.StepA s = added depth move.StepA s
after_move a b depth move.StepB s = added depth move.StepB s
after_move a b depth move.Read s =
    if are_ready (chips_after a b s.moves) then added depth move.Read s else s
after_move a b depth (move.Write byte) s =
    if are_ready (chips_after a b s.moves) then added depth (move.Write byte) s else s
after_move a b depth move.Undo s = taken_back s
after_move a b depth move.Status s = s
after_move a b depth move.Show s = s

-- what stands after some moves
abbrev pub after_moves : Image → Image → ℕ → List Move → Standing → Standing
after_moves a b depth [] s = s
after_moves a b depth (move ∷ moves) s = after_moves a b depth moves (after_move a b depth move s)

-- the side that has no request for a transfer; A where both have none
abbrev pub busy_side : Chips → Option Side
busy_side chips =
    if not (rqm chips.a.machine) then Some side.A
    else if not (rqm chips.b.machine) then Some side.B
    else None

-- what comes of a transfer, where this is what it does
abbrev pub unless_busy : Option Side → Moved → Moved
unless_busy (Some side) done = moved.Busy side
unless_busy None done = done

abbrev pub of_transfer : Chips → Moved → Moved
of_transfer chips done = unless_busy (busy_side chips) done

-- what comes of a move, where the chips are these and so many moves can be taken back
abbrev pub answer : Chips → ℕ → Move → Moved
answer chips undoable move.StepA = moved.Stepped side.A (addr_at (place chips.a))
answer chips undoable move.StepB = moved.Stepped side.B (addr_at (place chips.b))
answer chips undoable move.Status =
    moved.Bytes (status_byte chips.a.machine) (status_byte chips.b.machine)
answer chips undoable move.Read =
    of_transfer chips (moved.Bytes (byte_read chips.a.machine) (byte_read chips.b.machine))
answer chips undoable (move.Write byte) = of_transfer chips (moved.Wrote byte)
answer chips undoable move.Undo = if undoable == 0 then moved.Nothing else moved.Undone
answer chips undoable move.Show = moved.Shown chips.a.machine.regs chips.b.machine.regs

-- the moves, each with what comes of it
abbrev pub answers : Image → Image → ℕ → List Move → Standing → List Line
answers a b depth [] s = []
answers a b depth (move ∷ moves) s =
    record { mv = move; moved = answer (chips_after a b s.moves) s.undoable move }
    ∷ answers a b depth moves (after_move a b depth move s)
