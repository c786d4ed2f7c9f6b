use Rattle.std.proofs.Common.{◌%◌, ap, ◌∙◌}
use Rattle.wb_blast.proofs.products.low_product.Goals as goal

pub returns-clause-means : goal.returns-clause-means
returns-clause-means c = record {
  there = c.low_word.ensures.there _ c.in_ok-product.ensures.means.there;
  value = λ v o. c.low_word.ensures.value v ∙ ap (λ p. p % 65536) (c.in_ok-product.ensures.means.value v o);
}
