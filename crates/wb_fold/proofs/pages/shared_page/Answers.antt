use Rattle.std.proofs.Common.{sym, ◌∙◌, ap}
use Rattle.wb_fold.specs.declared.page.Page.{Page}
use Rattle.wb_fold.proofs.PageLaws.{same_words}
use Rattle.wb_fold.proofs.pages.shared_page.Goals as goal

pub returns-then-eq : goal.returns-then-eq
returns-then-eq c = record {
  words = ap (λ (page : Page). page.cells) c.in_ok-page.ensures.cases
      ∙ sym (c.as_slice.ensures ∙ ap (λ (page : Page). page.cells) c.deref.ensures) ∙ same_words c.as_slice.result.now c.args.words.now (sym c.if-eq.ensures);
}
