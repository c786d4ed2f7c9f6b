-- A graph that grew twice.
use Rattle.std.proofs.Common.{◌∙◌, ◌+◌, ◌<◌, length, arith}
use Rattle.wb_term.specs.Growth.{Grown}
use Rattle.wb_term.specs.Terms.{Terms}

pub grown_on : (old mid new : Terms) → Grown old mid → Grown mid new → Grown old new
grown_on old mid new one two = record {
  tables = two.tables ∙ one.tables;
  longer = (let first = one.longer in let second = two.longer in omega (arith, first, second));
  nodes = λ k n e. two.nodes k n (one.nodes k n e);
  before = λ k n h e. one.before k n h (two.before k n (let first = one.longer in omega (arith, h, first)) e);
  words = λ x h. two.words x (one.words x h);
  bits = λ c h. two.bits c (one.bits c h);
  word_values = λ i x h. two.word_values i x (one.words x h) ∙ one.word_values i x h;
  bit_values = λ i c h. two.bit_values i c (one.bits c h) ∙ one.bit_values i c h;
  word_inputs = λ allowed x h only. two.word_inputs allowed x (one.words x h) (one.word_inputs allowed x h only);
  bit_inputs = λ allowed c h only. two.bit_inputs allowed c (one.bits c h) (one.bit_inputs allowed c h only);
  under = λ j k h u. one.under j k h (two.under j k (let first = one.longer in omega (arith, h, first)) u);
}
