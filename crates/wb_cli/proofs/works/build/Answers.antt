use Rattle.std.proofs.Common.{[], ◌∷◌}
use Rattle.wb_cli.proofs.Checked.{contents_go}
use Rattle.wb_cli.proofs.works.build.Goals as goal

pub returns-clause-goes_to : goal.returns-clause-goes_to
returns-clause-goes_to g c =
    contents_go _ _ _ _ (c.in_ok-source_text.source_text.items ∷ []) _
    c.in_ok-source_text.ensures.read.0 c.in_ok-source_text.ensures.read.1
    (rw c.deref.ensures.value at c.build_contents.ensures)
