use Rattle.wb_fold.proofs.PageLaws.{HoldFirst}
use Rattle.wb_fold.proofs.pages.Pages.renewed.Given as goal

abbrev pub invariant-loop-at : goal.invariant-loop-at
invariant-loop-at l = HoldFirst l.pages.items l.ram l.at
