use Rattle.wb_fold.proofs.MergeLaws.{merging_more}
use Rattle.wb_fold.proofs.pages.merged_words.Goals as goal

pub loop-at-preserved : goal.loop-at-preserved
loop-at-preserved c =
    merging_more c.args.graph.now c.loop-at.graph c.mk_ite.new.graph c.args.cond c.args.yes.now c.args.no.now c.loop-at.words.items c.push.new.self.items
    c.get.result c.get-in-loop-at.result c.in_ok-word.word c.loop-at.at c.loop-at.invariant c.requires.cond c.requires.yes c.requires.no
    c.get.ensures.len c.get-in-loop-at.ensures.len c.loop-at-test.true c.get.ensures.entry c.get-in-loop-at.ensures.entry
    c.in_ok-word.ensures.value c.in_ok-word.ensures.inputs c.mk_ite.ensures.grown c.mk_ite.ensures.adds c.in_ok-push.ensures.items
