use Rattle.std.proofs.Common.{◌≡◌, ◌∙◌, Some, slice_get, sym, subst}
use Rattle.wb_term.specs.Terms.{Terms}
use Rattle.wb_term.specs.Values.{value, node_value}
use Rattle.wb_term.proofs.Inside.{graph_of}
use Rattle.wb_term.proofs.Find.{found_at, found_nowhere}
use Rattle.wb_term.proofs.Placed.{children_below}
use Rattle.wb_term.proofs.Values.{value-at}
use Rattle.wb_term.proofs.Under.{HasOnly-node}
use Rattle.wb_term.proofs.graph.Graph.find.Goals as goal

pub returns-in-Some-clause-found : goal.returns-in-Some-clause-found
returns-in-Some-clause-found c =
    subst (λ (g : Terms). slice_get g.nodes c.in-Some.index ≡ Some c.args.node) c.self.view_is
    (found_at c.args.node c.self.inside.nodes.keys c.in-Some.index (sym c.get_index_of.ensures.index ∙ c.in-Some.is))

pub returns-in-Some-clause-value : goal.returns-in-Some-clause-value
returns-in-Some-clause-value c inputs =
    let g = graph_of c.self.inside c.self.inside.nodes.keys in
    let at = found_at c.args.node c.self.inside.nodes.keys c.in-Some.index (sym c.get_index_of.ensures.index ∙ c.in-Some.is) in
    subst (λ (g : Terms). value inputs g c.in-Some.index ≡ node_value g.tables inputs (value inputs g) c.args.node) c.self.view_is
    (value-at inputs g c.in-Some.index c.args.node at (children_below g c.in-Some.index c.args.node (c.self.invariant.placed _ _ at)))

pub returns-in-Some-clause-inputs : goal.returns-in-Some-clause-inputs
returns-in-Some-clause-inputs c allowed own each =
    let at = found_at c.args.node c.self.inside.nodes.keys c.in-Some.index (sym c.get_index_of.ensures.index ∙ c.in-Some.is) in
    HasOnly-node c.args.self.now allowed c.in-Some.index c.args.node
    (subst (λ (g : Terms). slice_get g.nodes c.in-Some.index ≡ Some c.args.node) c.self.view_is at) own each

pub returns-in-None-clause-absent : goal.returns-in-None-clause-absent
returns-in-None-clause-absent c k at =
    found_nowhere c.args.node c.self.inside.nodes.keys (sym c.get_index_of.ensures.index ∙ c.in-None.is) k
    (subst (λ (g : Terms). slice_get g.nodes k ≡ Some c.args.node) (sym c.self.view_is) at)
