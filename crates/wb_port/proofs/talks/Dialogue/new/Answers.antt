use Rattle.wb_port.proofs.Starts.{first_talk}
use Rattle.wb_port.proofs.talks.Dialogue.new.Goals as goal

pub invariant_of-result : goal.invariant_of-result
invariant_of-result c = first_talk c.new.result.items c.new.ensures.items
