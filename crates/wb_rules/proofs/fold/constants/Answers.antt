use Rattle.wb_fold.proofs.MergeLaws.{listing_more}
use Rattle.wb_rules.proofs.fold.constants.Goals as goal

pub loop-at-preserved : goal.loop-at-preserved
loop-at-preserved c =
    listing_more c.loop-at.graph c.mk_const.new.graph c.loop-at.words.items c.push.new.self.items c.in_ok-word.word c.loop-at.at c.loop-at.invariant
    c.in_ok-word.ensures.value.there c.mk_const.ensures.grown c.mk_const.ensures.adds c.in_ok-push.ensures.items
