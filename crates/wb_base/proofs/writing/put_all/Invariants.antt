use Rattle.std.proofs.Common.{length, take, ◌-◌, ◌≤◌, ◌≡◌}
use Rattle.wb_base.specs.Sink.{Appends}
use Rattle.wb_base.proofs.writing.put_all.Given as goal

abbrev pub invariant-putting : goal.invariant-putting
invariant-putting g l = (l.at ≤ length l.text) × (g.W.Sink.faults l.out ≡ g.W.Sink.faults l.initial.out)
    × Appends (g.W.Sink.taken l.initial.out) (g.W.Sink.taken l.out) (take l.at l.text)

abbrev pub decreases-putting : goal.decreases-putting
decreases-putting g l = length l.text - l.at
