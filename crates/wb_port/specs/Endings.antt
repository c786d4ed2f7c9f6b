-- What is true of every wait loop, and that every run comes to one end.
use Rattle.std.specs.Prelude.{◌≡◌, ◌↔◌, ℕ, ◌+◌, ◌*◌, ◌<◌, ◌≤◌, Bool, true}
use Rattle.wb_rom.specs.declared.images.Image.{Image}
use Rattle.wb_port.specs.declared.runs.Run.{Run}
use Rattle.wb_port.specs.Wait.{is_loop, is_poll, follow_times}
use Rattle.wb_port.specs.Talk.{Talk, transfers}
use Rattle.wb_port.specs.Run.{turn, turns, instructions, beginning, Ends, EndsAs}

-- the address begins a wait loop of so many words, one to eight
pub record IsLoopOf (image : Image) (at m : ℕ) : Type 0 where
  pub some : 0 < m
  pub most : m ≤ 8
  pub loops : is_loop image at m ≡ true

-- Each address of a wait loop begins it too, with as many words, and is a poll.
abbrev pub LoopsArePolls : Type 0
LoopsArePolls =
    (image : Image) (at m j : ℕ)
    → IsLoopOf image at m
    → IsLoopOf image (follow_times image j at) m × (is_poll image (follow_times image j at) ≡ true)

-- A poll begins a wait loop, whose addresses are those that follow it.
abbrev pub PollsBeginLoops : Type 0
PollsBeginLoops =
    (image : Image) (at : ℕ) → is_poll image at ≡ true → (m : ℕ) × IsLoopOf image at m

-- An address begins one wait loop at most.
abbrev pub LoopsAreOne : Type 0
LoopsAreOne =
    (image : Image) (at m n : ℕ) → IsLoopOf image at m → IsLoopOf image at n → m ≡ n

-- some plain words after the first address comes the second one, or they are the same
abbrev pub IsPlaceOf : Image → ℕ → ℕ → Type 0
IsPlaceOf image at place = (j : ℕ) × (follow_times image j at ≡ place)

-- both loops have the same addresses, and as many words
pub record SameLoop (image : Image) (at m other n : ℕ) : Type 0 where
  pub words : m ≡ n
  pub places : (place : ℕ) → IsPlaceOf image at place ↔ IsPlaceOf image other place

-- Each address of a wait loop is in no other: loops that have one address in common are the same.
abbrev pub LoopsShareNoAddress : Type 0
LoopsShareNoAddress =
    (image : Image) (at m other n place : ℕ)
    → IsLoopOf image at m → IsLoopOf image other n
    → IsPlaceOf image at place → IsPlaceOf image other place
    → SameLoop image at m other n

-- the run comes to this end, after so many turns and at most (k + 7) * (transfers + 2) instructions
pub record ComesToAnEnd (image : Image) (k : ℕ) (held : Bool) (d : Talk) : Type 0 where
  pub end : Run
  pub count : ℕ
  pub ends : turn image k held (turns image k held count (beginning d)) ≡ Ends end
  pub few : instructions image k held count (beginning d) ≤ (k + 7) * (transfers d.accesses + 2)
  pub one : (other : Run) → EndsAs image k held d other → end ≡ other

-- Every run comes to an end, to one alone, and soon.
abbrev pub RunsComeToAnEnd : Type 0
RunsComeToAnEnd = (image : Image) (k : ℕ) (held : Bool) (d : Talk) → ComesToAnEnd image k held d
