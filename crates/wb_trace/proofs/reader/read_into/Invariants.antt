use Rattle.std.proofs.Common.{◌≤◌, length, min}
use Rattle.std.specs.Vec.{vec_capacity}
use Rattle.wb_trace.proofs.Reading.{IsSoFar}
use Rattle.wb_trace.proofs.reader.read_into.Given as goal

abbrev pub invariant-loop-rest : goal.invariant-loop-rest
invariant-loop-rest l = record {
  so_far : IsSoFar l.text l.rest l.moves.items;
  room : min (length l.text) 65536 ≤ vec_capacity l.moves;
}

abbrev pub decreases-loop-rest : goal.decreases-loop-rest
decreases-loop-rest l = length l.rest
