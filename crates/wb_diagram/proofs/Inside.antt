-- The forest that a store's fields stand for.
use Rattle.std.proofs.Common.{List}
use Rattle.wb_diagram.specs.declared.nodes.Node.{Node}
use Rattle.wb_diagram.specs.declared.store.Store.TheInside.{Inside}
use Rattle.wb_diagram.specs.Forest.{Forest}

-- with these nodes in place of its own
abbrev pub forest_of : Inside → List Node → Forest
forest_of inside nodes = record { nodes = nodes; limit = inside.limit }
