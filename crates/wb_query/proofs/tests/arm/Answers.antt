use Rattle.wb_query.proofs.Growing.{grown_on}
use Rattle.wb_query.proofs.tests.arm.Goals as goal

pub returns-clause-grown : goal.returns-clause-grown
returns-clause-grown c = grown_on _ _ _ (grown_on _ _ _ c.word.ensures.grown c.word-2.ensures.grown) c.word-3.ensures.grown
