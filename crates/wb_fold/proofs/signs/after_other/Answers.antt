use Rattle.wb_fold.proofs.Growth.{◌▸◌}
use Rattle.wb_fold.proofs.signs.after_other.Goals as goal

pub returns-in_err-no-clause-grown : goal.returns-in_err-no-clause-grown
returns-in_err-no-clause-grown c = c.signs_after.ensures.grown ▸ c.mk_known.ensures.grown

pub returns-clause-grown : goal.returns-clause-grown
returns-clause-grown c = c.signs_after.ensures.grown ▸ c.mk_known.ensures.grown
