use Rattle.wb_query.specs.Filling.{Filled}
use Rattle.wb_query.proofs.filling.inputs_of.Given as goal

abbrev pub invariant-loop-at : goal.invariant-loop-at
invariant-loop-at l = Filled l.places l.values (record { bytes = l.bytes; cells = l.cells }) l.at
