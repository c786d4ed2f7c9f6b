use Rattle.wb_replies.proofs.Growth.{◌▸◌}
use Rattle.wb_replies.proofs.gathering.with_request.Goals as goal

pub returns-clause-grown : goal.returns-clause-grown
returns-clause-grown c = c.replies_at.ensures.grown ▸ c.either.ensures.grown
