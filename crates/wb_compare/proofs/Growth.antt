-- One growth after another.
use Rattle.std.proofs.Common.{◌∙◌, refl, arith}
use Rattle.wb_term.specs.Terms.{Terms}
use Rattle.wb_term.specs.Growth.{Grown}

infixl 10 ◌▸◌
pub ◌▸◌ : {f g h : Terms} → Grown f g → Grown g h → Grown f h
a ▸ b = record {
  tables = b.tables ∙ a.tables;
  longer = omega (arith, a.longer, b.longer);
  nodes = λ k n at. b.nodes k n (a.nodes k n at);
  before = λ k n within at. a.before k n within (b.before k n (omega (arith, a.longer, within)) at);
  words = λ x there. b.words x (a.words x there);
  bits = λ c there. b.bits c (a.bits c there);
  word_values = λ i x there. b.word_values i x (a.words x there) ∙ a.word_values i x there;
  bit_values = λ i c there. b.bit_values i c (a.bits c there) ∙ a.bit_values i c there;
  word_inputs = λ p x there only. b.word_inputs p x (a.words x there) (a.word_inputs p x there only);
  bit_inputs = λ p c there only. b.bit_inputs p c (a.bits c there) (a.bit_inputs p c there only);
  under = λ j k within u. a.under j k within (b.under j k (omega (arith, a.longer, within)) u);
}

pub grown_same : (g : Terms) → Grown g g
grown_same g = record {
  tables = refl;
  longer = omega arith;
  nodes = λ k n at. at;
  before = λ k n within at. at;
  words = λ x there. there;
  bits = λ c there. there;
  word_values = λ i x there. refl;
  bit_values = λ i c there. refl;
  word_inputs = λ p x there only. only;
  bit_inputs = λ p c there only. only;
  under = λ j k within u. u;
}
