use Rattle.std.proofs.Common.{◌≡◌, take}
use Rattle.wb_fold.specs.Pages.{all_cells}
use Rattle.wb_fold.proofs.pages.Pages.to_words.Given as goal

abbrev pub invariant-loop-page : goal.invariant-loop-page
invariant-loop-page l = l.words.items ≡ all_cells (take l.page-index l.page-items)
