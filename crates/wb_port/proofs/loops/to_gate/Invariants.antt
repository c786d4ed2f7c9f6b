use Rattle.wb_port.specs.Wait.{to_gate}
use Rattle.wb_port.proofs.Gates.{IsOnTheWay}
use Rattle.wb_port.proofs.loops.to_gate.Given as goal

abbrev pub invariant-loop-here : goal.invariant-loop-here
invariant-loop-here l = IsOnTheWay l.image l.fn.at.value l.here.value l.words

abbrev pub decreases-loop-here : goal.decreases-loop-here
decreases-loop-here l = to_gate l.image l.here.value
