use Rattle.wb_vector.specs.Operations.{Named}
use Rattle.wb_vector.proofs.bitwise.variables.Given as goal

abbrev pub invariant-loop-at : goal.invariant-loop-at
invariant-loop-at l = Named l.fn.diagrams l.diagrams l.names l.done l.at
