use Rattle.wb_trace.proofs.Follow.{follow}
use Rattle.wb_trace.proofs.laws.traces_follow_their_moves.Goals as goal

pub returns : goal.returns
returns c = follow c.applied_chips_follow.ensures
