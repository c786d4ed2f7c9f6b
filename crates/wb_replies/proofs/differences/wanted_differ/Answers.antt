use Rattle.wb_replies.proofs.Growth.{◌▸◌}
use Rattle.wb_replies.proofs.differences.wanted_differ.Goals as goal

pub returns-clause-grown : goal.returns-clause-grown
returns-clause-grown c = c.words_differ.ensures.grown ▸ c.words_differ-2.ensures.grown ▸ c.mk_orb.ensures.grown
