use Rattle.std.proofs.Common.{sym, subst}
use Rattle.wb_diagram.specs.Forest.{Forest}
use Rattle.wb_diagram.specs.Choices.{IsChosen}
use Rattle.wb_diagram.proofs.Branches.{IsChosen-joined}
use Rattle.wb_diagram.proofs.diagrams.Diagrams.finish.Goals as goal

pub remember-requires-clause-chosen : goal.remember-requires-clause-chosen
remember-requires-clause-chosen c =
    IsChosen-joined _ _ c.join.ensures.grown _ _ _ _ _ c.requires.choice c.requires.first c.requires.low c.requires.high c.in_ok-joined.ensures.joined

pub returns-clause-chosen : goal.returns-clause-chosen
returns-clause-chosen c =
    subst (λ (f : Forest). IsChosen f c.args.choice.now c.in_ok-joined.joined) (sym c.remember.ensures)
    (IsChosen-joined _ _ c.join.ensures.grown _ _ _ _ _ c.requires.choice c.requires.first c.requires.low c.requires.high c.in_ok-joined.ensures.joined)
