-- What the run of a dialogue says until it ends.
use Rattle.std.specs.Prelude.{◌≡◌, ℕ, Bool, List}
use Rattle.wb_rom.specs.declared.images.Image.{Image}
use Rattle.wb_port.specs.declared.runs.Run.{Run}
use Rattle.wb_port.specs.Talk.{Talk}
use Rattle.wb_port.specs.Run.{Ends, turn, turns, beginning}

-- At its last moment the run, plain or held, has said these bytes: the replies to the reads and status reads that
-- were given until then, in order.
pub record IsSaid (image : Image) (k : ℕ) (held : Bool) (d : Talk) (bytes : List ℕ) : Type 0 where
  pub count : ℕ
  pub end : Run
  pub ends : turn image k held (turns image k held count (beginning d)) ≡ Ends end
  pub said : (turns image k held count (beginning d)).said ≡ bytes
