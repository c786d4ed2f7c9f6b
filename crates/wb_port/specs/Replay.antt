-- How a replay keeps a moment of a run: it counts the accesses that were given.
use Rattle.std.specs.Prelude.{◌≡◌, ℕ, ◌≤◌, List, [], ◌∷◌, length, take, drop, vec_len, vec_capacity}
use Rattle.wb_port.specs.declared.runs.Run.{Run}
use Rattle.wb_port.specs.declared.runs.Run.TheVariants as run
use Rattle.wb_port.specs.declared.replays.End.{End}
use Rattle.wb_port.specs.declared.replays.End.TheVariants as end
use Rattle.wb_port.specs.declared.replays.Turned.{Turned}
use Rattle.wb_port.specs.declared.replays.Turned.TheVariants as turned
use Rattle.wb_port.specs.declared.replays.Progress.{Progress}
use Rattle.wb_port.specs.declared.accesses.Access.TheVariants as access
use Rattle.wb_port.specs.declared.points.Point.{Point}
use Rattle.wb_word.specs.declared.sides.Side.{Side}
use Rattle.wb_port.specs.Points.{point_of}
use Rattle.wb_port.specs.Talk.{Talk}
use Rattle.wb_port.specs.Run.{Moment, Turn, Gives, Steps, Ends}

-- the moment of a run of the dialogue that has come so far
abbrev pub moment_of : Talk → Progress → Moment
moment_of d p =
    record {
      chip = p.chip;
      given = take p.given d.accesses;
      left = drop p.given d.accesses;
      said = p.said.items;
    }

-- a byte for each access that is left finds its room
pub record HasRoom (d : Talk) (p : Progress) : Type 0 where
  pub few : vec_len p.said ≤ p.given
  pub room : length d.accesses ≤ vec_capacity p.said

-- the end of a run with the bytes that were said
abbrev pub run_of : End → List ℕ → Run
run_of end.Answered said = run.Answered said
run_of end.Overrun said = run.Overrun
run_of (end.Breach at) said = run.Breach at

-- what was done is this turn from the old moment, and led to the new one
abbrev pub IsTurned : Turned → Turn → Moment → Moment → Type 0
IsTurned (turned.Gave a) t old new = t ≡ Gives a new
IsTurned turned.Stepped t old new = t ≡ Steps new
IsTurned (turned.Ended e) t old new = (t ≡ Ends (run_of e new.said)) × (old ≡ new)

-- the point that a replay notes after a turn: none after a status read
abbrev pub noted : Side → Turned → Moment → List Point
noted s (turned.Gave access.Status) m = []
noted s (turned.Gave access.Read) m = point_of s m ∷ []
noted s (turned.Gave (access.Write _)) m = point_of s m ∷ []
noted s turned.Stepped m = point_of s m ∷ []
noted s (turned.Ended _) m = []
