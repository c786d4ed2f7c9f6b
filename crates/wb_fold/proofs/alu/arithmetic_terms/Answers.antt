use Rattle.wb_fold.proofs.Growth.{◌▸◌}
use Rattle.wb_fold.proofs.alu.arithmetic_terms.Goals as goal

pub returns-in_err-after-clause-grown : goal.returns-in_err-after-clause-grown
returns-in_err-after-clause-grown c = c.arithmetic.ensures.grown ▸ c.after_arithmetic.ensures.grown

pub returns-clause-grown : goal.returns-clause-grown
returns-clause-grown c = c.arithmetic.ensures.grown ▸ c.after_arithmetic.ensures.grown
