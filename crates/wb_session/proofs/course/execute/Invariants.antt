use Rattle.std.proofs.Common.{◌≡◌}
use Rattle.wb_session.specs.Course.{executed}
use Rattle.wb_session.proofs.course.execute.Given as goal

abbrev pub invariant-loop : goal.invariant-loop
invariant-loop l = l.machine ≡ executed l.image l.counter l.initial.machine
