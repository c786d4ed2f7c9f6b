use Rattle.wb_diagram.proofs.Seen.{Sees-split, OnOk-map}
use Rattle.wb_diagram.proofs.diagrams.Diagrams.see_children.Goals as goal

pub returns-in_ok-see-in-Split : goal.returns-in_ok-see-in-Split
returns-in_ok-see-in-Split c =
    OnOk-map _ _ (λ added. Sees-split _ _ _ _ _ _ _ _ c.requires c.in-Split.ensures.node c.in-Split.ensures.placed c.in_ok-see-in-Split.ensures added)
    c.see-in-Split.result c.see-in-Split.ensures
