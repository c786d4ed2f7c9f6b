use Rattle.wb_vector.specs.Sums.{Agreeing}
use Rattle.wb_vector.proofs.equality.same_of.Given as goal

abbrev pub invariant-loop-at : goal.invariant-loop-at
invariant-loop-at l = Agreeing l.fn.diagrams l.diagrams l.x l.y l.same l.at
