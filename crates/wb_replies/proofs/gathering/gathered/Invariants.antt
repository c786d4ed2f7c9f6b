use Rattle.wb_explore.specs.Plans.{is_chosen}
use Rattle.wb_replies.proofs.Gathered.{Gathering}
use Rattle.wb_replies.proofs.gathering.gathered.Given as goal

abbrev pub invariant-loop-at : goal.invariant-loop-at
invariant-loop-at l = Gathering l.fn.graph l.graph (is_chosen l.layer.plan.kinds l.layer.plan.power) l.layer.requests l.at l.circuit
