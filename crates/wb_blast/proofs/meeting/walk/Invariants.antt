use Rattle.std.proofs.Common.{◌+◌, ◌*◌, length}
use Rattle.wb_blast.specs.Meeting.{Meeting, unmet}
use Rattle.wb_blast.proofs.meeting.walk.Given as goal

abbrev pub invariant-nodes : goal.invariant-nodes
invariant-nodes l = Meeting l.graph l.bits l.met l.stack.items

abbrev pub decreases-nodes : goal.decreases-nodes
decreases-nodes l = 4 * unmet l.met.slots + length l.stack.items
