use Rattle.wb_blast.specs.Doubles.{Multiplied}
use Rattle.wb_blast.proofs.products.multiply.Given as goal

abbrev pub invariant-loop-at : goal.invariant-loop-at
invariant-loop-at l = Multiplied l.fn.formula l.formula l.x l.y l.sum l.row l.at
