use Rattle.wb_vector.specs.Sums.{Carried}
use Rattle.wb_vector.proofs.sums.carry_of.Given as goal

abbrev pub invariant-loop-at : goal.invariant-loop-at
invariant-loop-at l = Carried l.fn.diagrams l.diagrams l.x l.y l.fn.c l.carry l.at
