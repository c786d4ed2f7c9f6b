use Rattle.std.proofs.Common.{◌∙◌, sym, subst, rules}
use Rattle.wb_diagram.specs.declared.nodes.Choice.{Choice}
use Rattle.wb_diagram.specs.Forest.{Forest}
use Rattle.wb_diagram.specs.Choices.{IsChosen}
use Rattle.wb_diagram.proofs.Remembered.{choice_eq-same, entry-at}
use Rattle.wb_diagram.proofs.diagrams.Diagrams.look_up.Goals as goal

pub returns-then-eq : goal.returns-then-eq
returns-then-eq c =
    let entry = c.index.result.now in
    let right = entry-at _ _ _ entry c.self.invariant (search rules) c.index.ensures in
    let same = choice_eq-same entry.choice c.args.choice.now (sym c.eq.ensures ∙ c.if-eq.true) in
    subst (λ (f : Forest). IsChosen f c.args.choice.now entry.result) c.self.view_is
    (subst (λ (x : Choice). IsChosen c.self.inside.store x entry.result) same right.result)
