use Rattle.std.proofs.Common.{◌≡◌}
use Rattle.wb_diagram.specs.Forest.{HasDiagram}
use Rattle.wb_diagram.specs.Values.{value}
use Rattle.wb_diagram.specs.Paths.{assigned}
use Rattle.wb_diagram.proofs.diagrams.Diagrams.value_at.Given as goal

abbrev pub invariant-down : goal.invariant-down
invariant-down l = record {
  there : HasDiagram l.self l.at;
  same : value (assigned l.variables) l.self l.at ≡ value (assigned l.variables) l.self l.fn.d;
}

abbrev pub decreases-down : goal.decreases-down
decreases-down l = l.at.number
