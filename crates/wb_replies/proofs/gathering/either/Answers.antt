use Rattle.wb_replies.proofs.Growth.{◌▸◌}
use Rattle.wb_replies.proofs.gathering.either.Goals as goal

pub returns-in_err-present-clause-grown : goal.returns-in_err-present-clause-grown
returns-in_err-present-clause-grown c = c.mk_ite.ensures.grown ▸ c.mk_ite-2.ensures.grown ▸ c.mk_orb.ensures.grown

pub returns-clause-grown : goal.returns-clause-grown
returns-clause-grown c = c.mk_ite.ensures.grown ▸ c.mk_ite-2.ensures.grown ▸ c.mk_orb.ensures.grown
