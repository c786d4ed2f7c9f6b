-- What is true of every trace.
use Rattle.std.specs.Prelude.{◌≡◌, ℕ, zero, suc, ◌-◌, ◌≤◌, replicate, List, [], ◌∷◌, ◌++◌, length, take}
use Rattle.wb_rom.specs.declared.images.Image.{Image}
use Rattle.wb_trace.specs.declared.moves.Move.{Move}
use Rattle.wb_trace.specs.declared.moves.Move.TheVariants.{Undo}
use Rattle.wb_trace.specs.declared.chips.Chips.{Chips}
use Rattle.wb_trace.specs.Standing.{Standing, begun, chips_after, added, after_move, after_moves, answers}
use Rattle.wb_trace.specs.Trace.{Tracing, begun_trace, traced, traced_lines}

-- the chips before each of the last so many moves, in order
abbrev pub chips_before_last : Image → Image → ℕ → List Move → List Chips
chips_before_last a b zero moves = []
chips_before_last a b (suc count) moves =
    let fewer = take (length moves - 1) moves in
    chips_before_last a b count fewer ++ (chips_after a b fewer ∷ [])

-- the trace of what stands: the chips after its moves, and those before each move that can be taken back
abbrev pub trace_of : Image → Image → ℕ → Standing → Tracing
trace_of a b depth s =
    record {
      chips = chips_after a b s.moves;
      earlier = chips_before_last a b s.undoable s.moves;
      depth = depth;
    }

-- After any moves the trace is that of what stands, and what came of each move is as the moves before it have it.
pub record TracesFollowTheirMoves : Type 0 where
  pub trace : (a b : Image) (depth : ℕ) (moves : List Move) → traced a b moves (begun_trace depth) ≡ trace_of a b depth (after_moves a b depth moves begun)
  pub lines : (a b : Image) (depth : ℕ) (moves : List Move) → traced_lines a b moves (begun_trace depth) ≡ answers a b depth moves begun

-- each of some moves stands, where this stands before them
abbrev pub AllStand : Image → Image → ℕ → List Move → Standing → Type 0
AllStand a b depth [] s = Unit {0}
AllStand a b depth (move ∷ moves) s =
    (after_move a b depth move s ≡ added depth move s)
    × AllStand a b depth moves (after_move a b depth move s)

-- Steps and transfers, as many as the depth at most, that are all taken back leave the moves that stood before
-- them, and so both chips as they were.
abbrev pub UndosGiveBack : Type 0
UndosGiveBack =
    (a b : Image) (depth : ℕ) (moves : List Move) (s : Standing)
    → AllStand a b depth moves s → length moves ≤ depth
    → (after_moves a b depth (moves ++ replicate (length moves) Undo) s).moves ≡ s.moves
