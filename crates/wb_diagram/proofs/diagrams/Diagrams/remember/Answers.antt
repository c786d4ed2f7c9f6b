use Rattle.std.proofs.Common.{sym, subst}
use Rattle.wb_diagram.specs.Forest.{Forest}
use Rattle.wb_diagram.specs.Choices.{IsEntry}
use Rattle.wb_diagram.proofs.Remembered.{IsMemo-set}
use Rattle.wb_diagram.proofs.diagrams.Diagrams.remember.Goals as goal

pub invariant_of-self : goal.invariant_of-self
invariant_of-self c =
    IsMemo-set _ _ _ _ c.self.invariant
    (subst (λ (f : Forest). IsEntry f (record { choice = c.args.choice.now; result = c.args.d })) (sym c.self.view_is)
    (record { choice = c.requires.choice; result = c.requires.chosen }))
