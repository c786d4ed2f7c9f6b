use Rattle.std.proofs.Common.{◌≡◌, ◌<◌, Some, slice_get, subst}
use Rattle.wb_term.specs.Terms.{Terms, IsPlaced, first_of}
use Rattle.wb_term.proofs.Inside.{graph_of}
use Rattle.wb_term.specs.Values.{value, node_value}
use Rattle.wb_term.proofs.Placed.{IsPlaced-kept, first_of-kept, children_below}
use Rattle.wb_term.proofs.Values.{value-at}
use Rattle.wb_term.proofs.Fits.{value-lt}
use Rattle.wb_term.proofs.Under.{HasOnly-children}
use Rattle.wb_term.proofs.graph.Graph.node_at.Goals as goal

placed : (c : goal.After-result-1) → IsPlaced (first_of c.args.number c.args.self.now) c.index.result.now
placed c =
    subst (λ (g : Terms). IsPlaced (first_of c.args.number g) c.index.result.now) c.self.view_is
    (c.self.invariant.placed _ _ c.index.ensures)

pub returns-clause-below : goal.returns-clause-below
returns-clause-below c = children_below c.args.self.now c.args.number c.index.result.now (placed c)

pub returns-clause-fits : goal.returns-clause-fits
returns-clause-fits c inputs is k =
    let fits : Terms → Type 0 = λ g. value inputs g k < 65536 in
    subst fits c.self.view_is (value-lt (graph_of c.self.inside c.self.inside.nodes.keys) c.self.invariant inputs is k)

pub returns-clause-placed : goal.returns-clause-placed
returns-clause-placed c =
    IsPlaced-kept _ _ (first_of-kept c.args.self.now c.args.number) c.index.result.now (placed c)

pub returns-clause-inputs : goal.returns-clause-inputs
returns-clause-inputs c allowed only =
    HasOnly-children c.args.self.now allowed c.args.number c.index.result.now
    (subst (λ (g : Terms). slice_get g.nodes c.args.number ≡ Some c.index.result.now) c.self.view_is c.index.ensures) only

pub returns-clause-value : goal.returns-clause-value
returns-clause-value c inputs =
    let is_value : Terms → Type 0 = λ g. value inputs g c.args.number ≡ node_value g.tables inputs (value inputs g) c.index.result.now in
    subst is_value c.self.view_is
    (value-at inputs (graph_of c.self.inside c.self.inside.nodes.keys) c.args.number c.index.result.now c.index.ensures
    (children_below (graph_of c.self.inside c.self.inside.nodes.keys) c.args.number c.index.result.now (c.self.invariant.placed _ _ c.index.ensures)))
