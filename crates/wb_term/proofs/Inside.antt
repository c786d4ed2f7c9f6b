-- The graph that a `Graph`'s fields stand for.
use Rattle.std.proofs.Common.{List}
use Rattle.wb_term.specs.declared.nodes.Node.{Node}
use Rattle.wb_term.specs.declared.graph.Graph.TheInside.{Inside}
use Rattle.wb_term.specs.Terms.{Terms, option_items}

-- with these nodes in place of its own
abbrev pub graph_of : Inside → List Node → Terms
graph_of inside nodes = record {
  nodes = nodes;
  tables = record { first = inside.first.items; second = option_items inside.second };
}
