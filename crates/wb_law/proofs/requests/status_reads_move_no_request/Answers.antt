use Rattle.wb_law.proofs.Replies.{requests_stay}
use Rattle.wb_law.proofs.requests.status_reads_move_no_request.Goals as goal

pub returns : goal.returns
returns c = requests_stay
