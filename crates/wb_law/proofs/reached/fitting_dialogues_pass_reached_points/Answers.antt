use Rattle.wb_law.proofs.StatusReads.{fitting_dialogues_pass_reached_points}
use Rattle.wb_law.proofs.reached.fitting_dialogues_pass_reached_points.Goals as goal

pub returns : goal.returns
returns c = fitting_dialogues_pass_reached_points c.status_reads_always_fit.ensures c.transfers_are_left.ensures
