use Rattle.std.proofs.Common.{◌≡◌, ◌-◌, ◌≤◌}
use Rattle.wb_port.specs.Wait.{is_poll}
use Rattle.wb_port.proofs.Walks.{sought}
use Rattle.wb_port.proofs.loops.is_poll.Given as goal

abbrev pub invariant-loop-walked : goal.invariant-loop-walked
invariant-loop-walked l =
    (sought l.image l.at.value (8 - l._walked) l.here.value l.tests ≡ is_poll l.image l.at.value)
    × (l.tests ≤ l._walked)
