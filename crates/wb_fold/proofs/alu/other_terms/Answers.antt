use Rattle.wb_fold.proofs.Growth.{◌▸◌}
use Rattle.wb_fold.proofs.alu.other_terms.Goals as goal

pub returns-in_err-carry-clause-grown : goal.returns-in_err-carry-clause-grown
returns-in_err-carry-clause-grown c = c.other_value.ensures.grown ▸ c.other_carry.ensures.grown

pub returns-in_err-after-clause-grown : goal.returns-in_err-after-clause-grown
returns-in_err-after-clause-grown c = c.other_value.ensures.grown ▸ c.other_carry.ensures.grown ▸ c.after_other.ensures.grown

pub returns-clause-grown : goal.returns-clause-grown
returns-clause-grown c = c.other_value.ensures.grown ▸ c.other_carry.ensures.grown ▸ c.after_other.ensures.grown
