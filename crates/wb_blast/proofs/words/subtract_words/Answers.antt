use Rattle.std.proofs.Common.{◌∙◌}
use Rattle.wb_blast.proofs.Sums.{subtracted}
use Rattle.wb_blast.proofs.words.subtract_words.Goals as goal

pub add_words-requires-clause-y_there : goal.add_words-requires-clause-y_there
add_words-requires-clause-y_there c = c.inverted.ensures.there _ c.requires.y_there

pub add_words-requires-clause-c_there : goal.add_words-requires-clause-c_there
add_words-requires-clause-c_there c = c.negation.ensures.there _ c.requires.c_there

pub returns-clause-difference : goal.returns-clause-difference
returns-clause-difference c = record {
  there = c.in_ok-difference.ensures.sum.there;
  value = λ v o. c.in_ok-difference.ensures.sum.value v o
      ∙ subtracted v c.args.x.now c.args.y.now c.inverted.result c.args.c c.negation.result c.told-y (c.inverted.ensures.value v) (c.negation.ensures.value v);
}
