use Rattle.wb_symstep.proofs.Growth.{◌▸◌}
use Rattle.wb_executed.proofs.symstep.first.Goals as goal

pub returns-in_err-sr-clause-grown : goal.returns-in_err-sr-clause-grown
returns-in_err-sr-clause-grown c = c.mk_byte.ensures.grown ▸ c.mk_const.ensures.grown

pub returns-in_err-state-clause-grown : goal.returns-in_err-state-clause-grown
returns-in_err-state-clause-grown c = c.mk_byte.ensures.grown ▸ c.mk_const.ensures.grown ▸ c.power.ensures.grown

pub returns-clause-grown : goal.returns-clause-grown
returns-clause-grown c = c.mk_byte.ensures.grown ▸ c.mk_const.ensures.grown ▸ c.power.ensures.grown
