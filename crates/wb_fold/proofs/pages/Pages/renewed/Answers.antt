use Rattle.std.proofs.Common.{arith}
use Rattle.wb_fold.proofs.PageLaws.{hold_more}
use Rattle.wb_fold.proofs.pages.Pages.renewed.Goals as goal

pub loop-at-preserved : goal.loop-at-preserved
loop-at-preserved c =
    hold_more c.loop-at.pages.items c.push.new.self.items c.in_ok-page.page c.args.ram.now c.loop-at.at _ c.loop-at.invariant c.loop-at-test.true
    c.requires.len c.in_ok-push.ensures.items (omega arith) c.in_ok-page.ensures.words
