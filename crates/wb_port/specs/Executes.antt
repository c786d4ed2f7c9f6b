-- Which addresses a held run executes.
use Rattle.std.specs.Prelude.{◌≡◌, ℕ, ◌≤◌, true, List, ◌⊎◌}
use Rattle.wb_rom.specs.declared.images.Image.{Image}
use Rattle.wb_port.specs.declared.runs.Run.TheVariants.{Answered}
use Rattle.wb_port.specs.Wait.{follow_times}
use Rattle.wb_port.specs.Monitor.{place}
use Rattle.wb_port.specs.Talk.{Talk}
use Rattle.wb_port.specs.Run.{Moment, Steps, Ends, turn, turns, beginning}

-- the held run of the dialogue executes the instruction at the address
pub record ExecutesAt (image : Image) (d : Talk) (k at : ℕ) : Type 0 where
  pub before : ℕ
  pub next : Moment
  pub executes : turn image k true (turns image k true before (beginning d)) ≡ Steps next
  pub place : place (turns image k true before (beginning d)).chip ≡ at

-- the held run of the dialogue is answered at a poll, and a longer wait would execute the address
pub record WaitsAround (image : Image) (d : Talk) (k at : ℕ) : Type 0 where
  pub before : ℕ
  pub replies : List ℕ
  pub answered : turn image k true (turns image k true before (beginning d)) ≡ Ends (Answered replies)
  pub follows : ℕ
  pub few : follows ≤ 7
  pub place : follow_times image follows (place (turns image k true before (beginning d)).chip) ≡ at

-- the held run of the dialogue executes the address, or would execute it in a longer wait at its end
abbrev pub Executes : Image → Talk → ℕ → ℕ → Type 0
Executes image d k at = ExecutesAt image d k at ⊎ WaitsAround image d k at
