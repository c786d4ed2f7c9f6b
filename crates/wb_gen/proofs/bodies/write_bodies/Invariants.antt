use Rattle.wb_gen.proofs.BodyWords.{AreWritten}
use Rattle.wb_gen.proofs.bodies.write_bodies.Given as goal

abbrev pub invariant-loop : goal.invariant-loop
invariant-loop l = AreWritten l.number l.counter l.initial.first l.initial.second l.first l.second l.drawn l.followed
