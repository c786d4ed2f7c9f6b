use Rattle.std.proofs.Common.{◌≡◌, subst}
use Rattle.wb_diagram.specs.Forest.{Forest}
use Rattle.wb_diagram.specs.Values.{value, node_value}
use Rattle.wb_diagram.proofs.Inside.{forest_of}
use Rattle.wb_diagram.proofs.Values.{value-is}
use Rattle.wb_diagram.proofs.store.Store.node_at.Goals as goal

pub returns-clause-value : goal.returns-clause-value
returns-clause-value c v =
    subst (λ (f : Forest). value v f c.args.d ≡ node_value v (value v f) c.index.result.now) c.self.view_is
    (value-is (forest_of c.self.inside c.self.inside.nodes.keys) c.self.invariant v c.args.d c.index.result.now c.index.ensures)
