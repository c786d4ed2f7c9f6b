use Rattle.wb_fold.proofs.MergeLaws.{Listing}
use Rattle.wb_rules.proofs.fold.constants.Given as goal

abbrev pub invariant-loop-at : goal.invariant-loop-at
invariant-loop-at l = Listing l.graph l.words.items l.at
