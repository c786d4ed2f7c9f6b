use Rattle.wb_fold.proofs.Growth.{◌▸◌}
use Rattle.wb_fold.proofs.signs.after_arithmetic.Goals as goal

pub returns-in_err-same-clause-grown : goal.returns-in_err-same-clause-grown
returns-in_err-same-clause-grown c = c.signs_after.ensures.grown ▸ c.agree.ensures.grown

pub returns-in_err-ov1-clause-grown : goal.returns-in_err-ov1-clause-grown
returns-in_err-ov1-clause-grown c = c.signs_after.ensures.grown ▸ c.agree.ensures.grown ▸ c.both_or_either.ensures.grown

pub returns-clause-grown : goal.returns-clause-grown
returns-clause-grown c = c.signs_after.ensures.grown ▸ c.agree.ensures.grown ▸ c.both_or_either.ensures.grown
