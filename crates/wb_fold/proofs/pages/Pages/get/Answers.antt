use Rattle.std.proofs.Common.{arith}
use Rattle.wb_fold.proofs.PageLaws.{entry_read}
use Rattle.wb_fold.proofs.pages.Pages.get.Goals as goal

pub returns-clause-entry : goal.returns-clause-entry
returns-clause-entry c =
    entry_read c.self.inside.pages.items c.args.self.now c.args.dp c.from.result c.from-2.result c.index.result.now c.deref.result.now
    c.self.view_is c.self.invariant (omega (arith, c.ranges.dp.fits)) c.from.ensures c.from-2.ensures c.index.ensures c.deref.ensures
