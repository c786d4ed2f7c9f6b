use Rattle.wb_vector.specs.Operations.{Combined}
use Rattle.wb_vector.proofs.bitwise.combine_words.Given as goal

abbrev pub invariant-loop-at : goal.invariant-loop-at
invariant-loop-at l = Combined l.fn.diagrams l.diagrams l.operation l.x l.y l.done l.at
