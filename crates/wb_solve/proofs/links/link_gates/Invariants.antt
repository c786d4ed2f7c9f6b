use Rattle.wb_solve.specs.Linking.{AreLinked}
use Rattle.wb_solve.proofs.links.link_gates.Given as goal

abbrev pub invariant-loop-number : goal.invariant-loop-number
invariant-loop-number l = AreLinked l.formula l.number l.links
