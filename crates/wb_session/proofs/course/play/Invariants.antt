use Rattle.std.proofs.Common.{vec_capacity, vec_len}
use Rattle.wb_session.proofs.Runs.{IsPlaying}
use Rattle.wb_session.proofs.course.play.Given as goal

abbrev pub invariant-loop-place : goal.invariant-loop-place
invariant-loop-place l = IsPlaying l.image l.script l.lines.items (vec_len l.lines) (vec_capacity l.lines) l.machine l.place l.number
