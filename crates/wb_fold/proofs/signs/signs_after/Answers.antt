use Rattle.wb_fold.proofs.Growth.{◌▸◌}
use Rattle.wb_fold.proofs.signs.signs_after.Goals as goal

pub returns-clause-grown : goal.returns-clause-grown
returns-clause-grown c = c.is_zero.ensures.grown ▸ c.sign_of.ensures.grown ▸ c.mk_iteb.ensures.grown
