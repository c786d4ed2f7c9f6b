use Rattle.std.proofs.Common.{refl}
use Rattle.wb_point.proofs.MergeWords.{merging_words_more}
use Rattle.wb_point.proofs.lists.merge_words.Goals as goal

pub loop-at-preserved : goal.loop-at-preserved
loop-at-preserved c =
    merging_words_more c.args.graph.now c.loop-at.graph c.mk_ite.new.graph c.args.cond c.args.yes.now c.args.no.now c.loop-at.words.items c.push.new.self.items
    _ _ c.in_ok-word.word c.loop-at.at c.loop-at.invariant c.requires.cond c.requires.yes c.requires.no
    c.requires.lengths c.loop-at-test.true refl refl
    c.in_ok-word.ensures.value c.in_ok-word.ensures.inputs c.mk_ite.ensures.grown c.mk_ite.ensures.adds c.in_ok-push.ensures.items
