use Rattle.std.proofs.Common.{arith, ap}
use Rattle.wb_fold.specs.declared.page.Page.{Page}
use Rattle.wb_fold.proofs.PageLaws.{entry_replaced}
use Rattle.wb_fold.proofs.pages.Pages.set.Goals as goal

pub returns-clause-entry : goal.returns-clause-entry
returns-clause-entry c =
    entry_replaced c.self.inside.pages.items c.args.self.now c.args.dp c.from-place.result c.from.result c.index.result.now c.in_ok-copy.copy
    c.deref.result.now c.args.word
    c.self.view_is c.self.invariant (omega (arith, c.ranges.dp.fits)) c.from-place.ensures c.from.ensures c.index.ensures c.deref.ensures
    (ap (λ (page : Page). page.cells) c.in_ok-copy.ensures.ok)
