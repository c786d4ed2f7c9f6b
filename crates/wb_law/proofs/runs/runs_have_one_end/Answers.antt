use Rattle.wb_law.proofs.Ends.{one_end_of}
use Rattle.wb_law.proofs.runs.runs_have_one_end.Goals as goal

pub returns : goal.returns
returns c = one_end_of
