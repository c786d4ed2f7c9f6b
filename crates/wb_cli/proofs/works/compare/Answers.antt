use Rattle.std.proofs.Common.{[], ◌∷◌}
use Rattle.wb_cli.proofs.Checked.{contents_go}
use Rattle.wb_cli.proofs.works.compare.Goals as goal

pub returns-clause-goes_to : goal.returns-clause-goes_to
returns-clause-goes_to g c =
    contents_go _ _ _ _ (c.in_ok-first_bytes.first_bytes.items ∷ c.in_ok-first_bytes.second_bytes.items ∷ []) _
    c.in_ok-first_bytes.ensures.read.0 c.in_ok-first_bytes.ensures.read.1
    (rw (c.deref.ensures.value, c.deref-2.ensures.value) at c.compare_contents.ensures)
