use Rattle.wb_fold.proofs.Growth.{◌▸◌}
use Rattle.wb_fold.proofs.alu.arithmetic.Goals as goal

pub returns-in_ok-one-in-Dec-clause-grown : goal.returns-in_ok-one-in-Dec-clause-grown
returns-in_ok-one-in-Dec-clause-grown c = c.mk_const.ensures.grown ▸ c.subtract-in-Dec.ensures.grown

pub returns-in_ok-one-in-Inc-clause-grown : goal.returns-in_ok-one-in-Inc-clause-grown
returns-in_ok-one-in-Inc-clause-grown c = c.mk_const-in-Inc.ensures.grown ▸ c.add-in-Inc.ensures.grown
