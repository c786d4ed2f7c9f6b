use Rattle.wb_port.specs.Replay.{moment_of, HasRoom}
use Rattle.wb_port.proofs.Playing.{IsSoFar}
use Rattle.wb_port.proofs.Ends.{rest_of}
use Rattle.wb_port.proofs.replays.replay_into.Given as goal

abbrev pub invariant-loop-end : goal.invariant-loop-end
invariant-loop-end l = IsSoFar l.image l.pace l.held l.talk (moment_of l.talk l.now) × HasRoom l.talk l.now

abbrev pub decreases-loop-end : goal.decreases-loop-end
decreases-loop-end l = rest_of l.image l.pace (moment_of l.talk l.now)
