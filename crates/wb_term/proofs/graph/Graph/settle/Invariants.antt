use Rattle.wb_term.proofs.Settled.{IsSettled}
use Rattle.wb_term.proofs.graph.Graph.settle.Given as goal

abbrev pub invariant-loop-at : goal.invariant-loop-at
invariant-loop-at l = IsSettled l.inputs l.self l.fn.scratch l.scratch l.at
