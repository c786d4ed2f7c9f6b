use Rattle.wb_diagram.proofs.Branches.{◌▸◌, IsFirst-kept, IsHalf-kept, IsHalf-chosen, HasChoice-kept}
use Rattle.wb_diagram.proofs.diagrams.Diagrams.+choose.Goals as goal

pub finish-requires-clause-first : goal.finish-requires-clause-first
finish-requires-clause-first t c = IsFirst-kept _ _ (c.choose.ensures.grown ▸ c.choose-2.ensures.grown) _ _ c.requires c.first_variable-variable.ensures

pub finish-requires-clause-low : goal.finish-requires-clause-low
finish-requires-clause-low t c =
    IsHalf-kept _ _ c.choose-2.ensures.grown _ _ _ _ (HasChoice-kept _ _ c.choose.ensures.grown _ c.requires)
    (IsHalf-chosen _ _ c.choose.ensures.grown _ _ _ _ _ c.requires c.branch_of-low.ensures c.in_ok-low.ensures.chosen)

pub finish-requires-clause-high : goal.finish-requires-clause-high
finish-requires-clause-high t c =
    IsHalf-chosen _ _ (c.choose.ensures.grown ▸ c.choose-2.ensures.grown) _ _ _ _ _ c.requires c.branch_of-high.ensures c.in_ok-high.ensures.chosen
