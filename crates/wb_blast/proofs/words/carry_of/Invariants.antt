use Rattle.wb_blast.specs.Words.{Carried}
use Rattle.wb_blast.proofs.words.carry_of.Given as goal

abbrev pub invariant-loop-at : goal.invariant-loop-at
invariant-loop-at l = Carried l.fn.formula l.formula l.x l.y l.fn.c l.carry l.at
