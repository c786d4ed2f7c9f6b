use Rattle.wb_vector.specs.Sums.{Subtracted}
use Rattle.wb_vector.proofs.sums.difference_of.Given as goal

abbrev pub invariant-loop-at : goal.invariant-loop-at
invariant-loop-at l = Subtracted l.fn.diagrams l.diagrams l.x l.y l.fn.c l.difference l.borrow l.at
