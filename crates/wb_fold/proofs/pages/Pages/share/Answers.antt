use Rattle.std.proofs.Common.{◌∙◌}
use Rattle.wb_fold.proofs.PageLaws.{all_cells-same, ArePages-same}
use Rattle.wb_fold.proofs.pages.Pages.share.Goals as goal

pub invariant_of-result : goal.invariant_of-result
invariant_of-result c = ArePages-same c.self.inside.pages.items c.in_ok-pages.pages.items c.in_ok-pages.ensures.cases.0 c.self.invariant

pub returns-clause-list : goal.returns-clause-list
returns-clause-list c = all_cells-same c.self.inside.pages.items c.in_ok-pages.pages.items c.in_ok-pages.ensures.cases.0 ∙ c.self.view_is
