use Rattle.std.proofs.Common.{length, subst, sym, arith}
use Rattle.wb_diagram.specs.Forest.{Forest, IsPlaced}
use Rattle.wb_diagram.specs.Growth.{IsInterned, Grown}
use Rattle.wb_diagram.proofs.Inside.{forest_of}
use Rattle.wb_diagram.proofs.Push.{IsInterned-inserted, IsForest-inserted, Grown-interned}
use Rattle.wb_diagram.proofs.store.Store.intern.Goals as goal

pub invariant_of-self-2 : goal.invariant_of-self-2
invariant_of-self-2 c =
    let stored = c.in-Ok.ensures.stored in
    IsForest-inserted (forest_of c.self.inside c.self.inside.nodes.keys) _ c.args.node _ c.in-Ok.index c.in-Ok.ensures.keys stored.1 stored.2 c.self.invariant
    (subst (λ (f : Forest). IsPlaced f (length f.nodes) c.args.node) (sym c.self.view_is) c.requires.placed)
    (omega (arith, c.len.ensures.len, c.if-len-self.false))

pub returns-clause-interned : goal.returns-clause-interned
returns-clause-interned c =
    let stored = c.in-Ok.ensures.stored in
    subst (λ (f : Forest). IsInterned f (forest_of c.self.inside c.insert_full.new.self.keys) c.args.node c.in-Ok.index) c.self.view_is
    (IsInterned-inserted _ _ _ stored.0 _ c.in-Ok.ensures.keys stored.1 stored.2)

pub returns-clause-forest : goal.returns-clause-forest
returns-clause-forest c =
    let stored = c.in-Ok.ensures.stored in
    IsForest-inserted (forest_of c.self.inside c.self.inside.nodes.keys) _ c.args.node _ c.in-Ok.index c.in-Ok.ensures.keys stored.1 stored.2 c.self.invariant
    (subst (λ (f : Forest). IsPlaced f (length f.nodes) c.args.node) (sym c.self.view_is) c.requires.placed)
    (omega (arith, c.len.ensures.len, c.if-len-self.false))

pub returns-clause-grown : goal.returns-clause-grown
returns-clause-grown c =
    let stored = c.in-Ok.ensures.stored in
    subst (λ (f : Forest). Grown f (forest_of c.self.inside c.insert_full.new.self.keys)) c.self.view_is
    (Grown-interned _ _ c.args.node c.in-Ok.index
    (IsInterned-inserted (forest_of c.self.inside c.self.inside.nodes.keys) _ _ stored.0 _ c.in-Ok.ensures.keys stored.1 stored.2))
