use Rattle.wb_fold.proofs.Growth.{◌▸◌}
use Rattle.wb_fold.proofs.alu.sum_of.Goals as goal

pub returns-clause-grown : goal.returns-clause-grown
returns-clause-grown c = c.mk_sum.ensures.grown ▸ c.mk_carry.ensures.grown ▸ c.sum_overflow.ensures.grown
