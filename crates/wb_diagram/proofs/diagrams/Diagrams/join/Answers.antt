use Rattle.wb_diagram.proofs.Branches.{IsMemo-kept}
use Rattle.wb_diagram.proofs.diagrams.Diagrams.join.Goals as goal

pub invariant_of-self : goal.invariant_of-self
invariant_of-self c = IsMemo-kept _ _ c.join.ensures.grown _ c.self.invariant
