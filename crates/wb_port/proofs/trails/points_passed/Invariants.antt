use Rattle.wb_port.specs.Replay.{moment_of, HasRoom}
use Rattle.wb_port.proofs.Passing.{IsTrailSoFar}
use Rattle.wb_port.proofs.Ends.{rest_of}
use Rattle.wb_port.proofs.trails.points_passed.Given as goal

abbrev pub invariant-loop-points : goal.invariant-loop-points
invariant-loop-points l = IsTrailSoFar l.image l.side l.pace l.talk (moment_of l.talk l.now) l.points × HasRoom l.talk l.now

abbrev pub decreases-loop-points : goal.decreases-loop-points
decreases-loop-points l = rest_of l.image l.pace (moment_of l.talk l.now)
