-- A trace as it is kept: the two chips, and as many of the pairs before them as can be taken back.
use Rattle.std.specs.Prelude.{ℕ, ◌-◌, if◌then◌else◌, List, [], ◌∷◌, ◌++◌, length, take, drop, slice_get}
use Rattle.std.specs.declared.option.Option.{Option}
use Rattle.std.specs.declared.option.Option.TheVariants.{Some, None}
use Rattle.wb_rom.specs.declared.images.Image.{Image}
use Rattle.wb_port.specs.declared.accesses.Access.TheVariants as access
use Rattle.wb_port.specs.declared.accesses.Event.{Event}
use Rattle.wb_port.specs.declared.accesses.Event.TheVariants as event
use Rattle.wb_port.specs.Monitor.{capped}
use Rattle.wb_port.specs.Schedule.{applied}
use Rattle.wb_trace.specs.declared.moves.Move.{Move}
use Rattle.wb_trace.specs.declared.moves.Move.TheVariants as move
use Rattle.wb_trace.specs.declared.answers.Line.{Line}
use Rattle.wb_trace.specs.declared.chips.Chips.{Chips}
use Rattle.wb_trace.specs.Standing.{fresh, are_ready, answer}

-- the chips as they are, the pairs that moves can be taken back to, the latest last, and how many there may be
pub record Tracing : Type 0 where
  pub chips : Chips
  pub earlier : List Chips
  pub depth : ℕ

-- both chips at reset
abbrev pub both_fresh : Chips
both_fresh = record { a = fresh; b = fresh }

-- before the first move
abbrev pub begun_trace : ℕ → Tracing
begun_trace depth = record { chips = both_fresh; earlier = []; depth = depth }

-- both chips after an event of both
abbrev pub both_applied : Image → Image → Event → Chips → Chips
both_applied a b e chips =
    record { a = capped (applied a e chips.a); b = capped (applied b e chips.b) }

-- the last of a list, so many at most
abbrev pub latest : ℕ → List Chips → List Chips
latest most pairs = drop (length pairs - most) pairs

-- the chips become these, and can be taken back to what they were
abbrev pub advanced : Chips → Tracing → Tracing
advanced chips t =
    record { chips = chips; earlier = latest t.depth (t.earlier ++ (t.chips ∷ [])); depth = t.depth }

-- the chips become what they were, where that is kept
abbrev pub back_to : Option Chips → Tracing → Tracing
back_to None t = t
back_to (Some chips) t =
    record { chips = chips; earlier = take (length t.earlier - 1) t.earlier; depth = t.depth }

abbrev pub went_back : Tracing → Tracing
went_back t = back_to (slice_get t.earlier (length t.earlier - 1)) t

-- a transfer, where both sides are ready
abbrev pub transferred : Image → Image → Event → Tracing → Tracing
transferred a b e t = if are_ready t.chips then advanced (both_applied a b e t.chips) t else t

-- the trace after one move
abbrev pub moved_on : Image → Image → Move → Tracing → Tracing
moved_on a b move.StepA t = advanced (record t.chips { a = capped (applied a event.Step t.chips.a) }) t
moved_on a b move.StepB t = advanced (record t.chips { b = capped (applied b event.Step t.chips.b) }) t
moved_on a b move.Read t = transferred a b (event.Host access.Read) t
moved_on a b (move.Write byte) t = transferred a b (event.Host (access.Write byte)) t
moved_on a b move.Undo t = went_back t
moved_on a b move.Status t = t
moved_on a b move.Show t = t

-- the trace after some moves
abbrev pub traced : Image → Image → List Move → Tracing → Tracing
traced a b [] t = t
traced a b (move ∷ moves) t = traced a b moves (moved_on a b move t)

-- the moves, each with what comes of it
abbrev pub traced_lines : Image → Image → List Move → Tracing → List Line
traced_lines a b [] t = []
traced_lines a b (move ∷ moves) t =
    record { mv = move; moved = answer t.chips (length t.earlier) move }
    ∷ traced_lines a b moves (moved_on a b move t)
