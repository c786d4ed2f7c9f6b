use Rattle.wb_fold.proofs.MergeLaws.{Merging}
use Rattle.wb_fold.proofs.pages.merged_words.Given as goal

abbrev pub invariant-loop-at : goal.invariant-loop-at
invariant-loop-at l = Merging l.fn.graph l.graph l.cond l.yes l.no l.words.items l.at
