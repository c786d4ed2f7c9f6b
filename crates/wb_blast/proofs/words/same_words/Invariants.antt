use Rattle.wb_blast.specs.Words.{Differing}
use Rattle.wb_blast.proofs.words.same_words.Given as goal

abbrev pub invariant-loop-at : goal.invariant-loop-at
invariant-loop-at l = Differing l.fn.formula l.formula l.x l.y l.differs l.at
