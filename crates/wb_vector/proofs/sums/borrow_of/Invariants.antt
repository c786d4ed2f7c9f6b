use Rattle.wb_vector.specs.Sums.{Borrowed}
use Rattle.wb_vector.proofs.sums.borrow_of.Given as goal

abbrev pub invariant-loop-at : goal.invariant-loop-at
invariant-loop-at l = Borrowed l.fn.diagrams l.diagrams l.x l.y l.fn.c l.borrow l.at
