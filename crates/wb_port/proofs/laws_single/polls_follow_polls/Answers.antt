use Rattle.wb_port.proofs.Facts.{poll_follows}
use Rattle.wb_port.proofs.laws_single.polls_follow_polls.Goals as goal

pub returns : goal.returns
returns c = poll_follows
