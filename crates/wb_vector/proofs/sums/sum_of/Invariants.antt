use Rattle.wb_vector.specs.Sums.{Added}
use Rattle.wb_vector.proofs.sums.sum_of.Given as goal

abbrev pub invariant-loop-at : goal.invariant-loop-at
invariant-loop-at l = Added l.fn.diagrams l.diagrams l.x l.y l.fn.c l.sum l.carry l.at
