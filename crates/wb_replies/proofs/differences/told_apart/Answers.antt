use Rattle.wb_replies.proofs.Growth.{◌▸◌}
use Rattle.wb_replies.proofs.differences.told_apart.Goals as goal

pub returns-clause-grown : goal.returns-clause-grown
returns-clause-grown c = c.mk_andb.ensures.grown ▸ c.wanted_differ.ensures.grown ▸ c.mk_andb-2.ensures.grown
