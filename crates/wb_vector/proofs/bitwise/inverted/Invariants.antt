use Rattle.wb_vector.specs.Operations.{Inverted}
use Rattle.wb_vector.proofs.bitwise.inverted.Given as goal

abbrev pub invariant-loop-at : goal.invariant-loop-at
invariant-loop-at l = Inverted l.fn.diagrams l.diagrams l.x l.done l.at
