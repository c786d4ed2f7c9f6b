use Rattle.wb_point.proofs.MergeWords.{MergingWords}
use Rattle.wb_point.proofs.lists.merge_words.Given as goal

abbrev pub invariant-loop-at : goal.invariant-loop-at
invariant-loop-at l = MergingWords l.fn.graph l.graph l.cond l.yes l.no l.words.items l.at
