use Rattle.wb_replies.proofs.Growth.{◌▸◌}
use Rattle.wb_replies.proofs.gathering.replies_at.Goals as goal

pub returns-in_err-read-clause-grown : goal.returns-in_err-read-clause-grown
returns-in_err-read-clause-grown c = c.sym_status.ensures.grown ▸ c.sym_read.ensures.grown

pub returns-clause-grown : goal.returns-clause-grown
returns-clause-grown c = c.sym_status.ensures.grown ▸ c.sym_read.ensures.grown
