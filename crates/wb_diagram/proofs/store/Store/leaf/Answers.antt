use Rattle.std.proofs.Common.{arith, subst}
use Rattle.std.proofs.lemmas.Grind.{common_steps}
use Rattle.wb_diagram.specs.Forest.{Forest}
use Rattle.wb_diagram.specs.Values.{IsLeaf}
use Rattle.wb_diagram.proofs.Inside.{forest_of}
use Rattle.wb_diagram.proofs.Reach.{IsLeaf-at}
use Rattle.wb_diagram.proofs.store.Store.leaf.Goals as goal

pub returns-clause-leaf : goal.returns-clause-leaf
returns-clause-leaf c =
    subst (λ (f : Forest). IsLeaf f c.args.constant (record { number = c.from.result })) c.self.view_is
    (IsLeaf-at (forest_of c.self.inside c.self.inside.nodes.keys) c.self.invariant c.args.constant _ (grind (arith, common_steps)))
