use Rattle.std.proofs.Common.{ap, ◌∙◌, ◌++◌}
use Rattle.wb_fold.specs.declared.page.Page.{Page}
use Rattle.wb_fold.proofs.PageLaws.{copied_more}
use Rattle.wb_fold.proofs.pages.Pages.to_words.Goals as goal

pub loop-page-preserved : goal.loop-page-preserved
loop-page-preserved c =
    copied_more c.deref-page-items.result.now c.loop-page.page-index c.loop-page.words.items c.extend_from_slice.new.self.items
    c.page-item.result c.page-item.result c.loop-page-test.true c.loop-page.invariant c.page-item.is
    (c.in_ok-extend_from_slice.ensures.items ∙ ap (λ (page : Page). c.loop-page.words.items ++ page.cells) c.deref.ensures)
