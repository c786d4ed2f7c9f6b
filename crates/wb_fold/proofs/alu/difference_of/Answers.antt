use Rattle.std.proofs.Common.{◌∙◌}
use Rattle.wb_fold.proofs.SignLaws.{difference_told}
use Rattle.wb_fold.proofs.Growth.{◌▸◌}
use Rattle.wb_fold.proofs.alu.difference_of.Goals as goal

pub returns-clause-overflow : goal.returns-clause-overflow
returns-clause-overflow c = record {
  there = c.in_ok-overflow.ensures.value.there;
  value = λ i is.
      let grown = c.mk_diff.ensures.grown ▸ c.mk_borrow.ensures.grown in
      let value = c.in_ok-value.ensures.value in
      c.in_ok-overflow.ensures.value.value i is
      ∙ difference_told _ _ _ _ _ _ (grown.word_values i c.args.q c.requires.q) (grown.word_values i c.args.p c.requires.p)
      (c.mk_borrow.ensures.grown.word_values i c.in_ok-value.value value.there ∙ value.value i is)
      (c.word_at-word.ensures.fits i is c.args.q) (c.word_at-word.ensures.fits i is c.args.p);
}

pub returns-clause-grown : goal.returns-clause-grown
returns-clause-grown c = c.mk_diff.ensures.grown ▸ c.mk_borrow.ensures.grown ▸ c.difference_overflow.ensures.grown
