use Rattle.std.proofs.Common.{◌-◌}
use Rattle.wb_session.proofs.Runs.{IsWaiting}
use Rattle.wb_session.proofs.course.wait.Given as goal

abbrev pub invariant-loop-most : goal.invariant-loop-most
invariant-loop-most l = IsWaiting l.image l.most l.initial.machine l.machine l.count

abbrev pub decreases-loop-most : goal.decreases-loop-most
decreases-loop-most l = l.most - l.count
