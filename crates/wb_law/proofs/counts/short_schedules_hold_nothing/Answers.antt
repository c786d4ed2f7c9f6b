use Rattle.wb_law.proofs.Counting.{short_schedules_hold_nothing}
use Rattle.wb_law.proofs.counts.short_schedules_hold_nothing.Goals as goal

pub returns : goal.returns
returns c = short_schedules_hold_nothing c.applied_chips_follow.ensures
