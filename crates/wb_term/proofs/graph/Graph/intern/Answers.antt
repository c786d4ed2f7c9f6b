use Rattle.std.proofs.Common.{◌<◌, ◌^◌, length, subst, sym}
use Rattle.wb_term.specs.Terms.{Terms, IsPlaced}
use Rattle.wb_term.specs.Growth.{IsInterned, Gains}
use Rattle.wb_term.proofs.Inside.{graph_of}
use Rattle.wb_term.proofs.Push.{IsInterned-inserted, IsGraph-interned}
use Rattle.wb_term.proofs.Growth.{Gains-interned}
use Rattle.wb_term.proofs.graph.Graph.intern.Goals as goal

pub invariant_of-self-2 : goal.invariant_of-self-2
invariant_of-self-2 c =
    let stored = c.in-Ok.ensures.stored in
    IsGraph-interned _ _ c.args.node c.in-Ok.index
    (IsInterned-inserted (graph_of c.self.inside c.self.inside.nodes.keys) _ _ stored.0 _ c.in-Ok.ensures.keys stored.1 stored.2)
    c.self.invariant
    (subst (λ (g : Terms). IsPlaced g c.args.node) (sym c.self.view_is) c.requires.placed)
    (subst (λ (g : Terms). length g.nodes < 2 ^ 31) (sym c.self.view_is) c.requires.room)

pub returns-clause-interned : goal.returns-clause-interned
returns-clause-interned c =
    let stored = c.in-Ok.ensures.stored in
    subst (λ (g : Terms). IsInterned g (graph_of c.self.inside c.insert_full.new.self.keys) c.args.node c.in-Ok.index) c.self.view_is
    (IsInterned-inserted _ _ _ stored.0 _ c.in-Ok.ensures.keys stored.1 stored.2)

pub returns-clause-graph : goal.returns-clause-graph
returns-clause-graph c =
    let stored = c.in-Ok.ensures.stored in
    subst (λ (g : Terms). Gains g (graph_of c.self.inside c.insert_full.new.self.keys) c.args.node c.in-Ok.index) c.self.view_is
    (Gains-interned _ _ c.args.node c.in-Ok.index
    (IsInterned-inserted (graph_of c.self.inside c.self.inside.nodes.keys) _ _ stored.0 _ c.in-Ok.ensures.keys stored.1 stored.2)
    c.self.invariant
    (subst (λ (g : Terms). IsPlaced g c.args.node) (sym c.self.view_is) c.requires.placed)
    (subst (λ (g : Terms). length g.nodes < 2 ^ 31) (sym c.self.view_is) c.requires.room))
