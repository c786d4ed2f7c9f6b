use Rattle.std.proofs.Common.{◌≢◌}
use Rattle.wb_diagram.specs.Forest.{HasDiagram}
use Rattle.wb_diagram.proofs.Walks.{Leads}
use Rattle.wb_diagram.proofs.diagrams.Diagrams.path.Given as goal

abbrev pub invariant-down : goal.invariant-down
invariant-down l = record {
  there : HasDiagram l.self l.at;
  some : l.at.number ≢ 0;
  leads : Leads l.self l.first l.fn.d l.at l.turns.items;
}

abbrev pub decreases-down : goal.decreases-down
decreases-down l = l.at.number
