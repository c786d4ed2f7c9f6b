use Rattle.wb_law.proofs.Ends.{course}
use Rattle.wb_law.proofs.runs.runs_follow_their_course.Goals as goal

pub returns : goal.returns
returns c = course
