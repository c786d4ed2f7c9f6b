use Rattle.wb_blast.proofs.Meanings.{IsEntry-not}
use Rattle.wb_blast.proofs.Sums.{borrowed}
use Rattle.wb_blast.proofs.words.borrow_of.Goals as goal

pub carry_of-requires-clause-y_there : goal.carry_of-requires-clause-y_there
carry_of-requires-clause-y_there c = c.inverted.ensures.there _ c.requires.y_there

pub carry_of-requires-clause-c_there : goal.carry_of-requires-clause-c_there
carry_of-requires-clause-c_there c = c.negation.ensures.there _ c.requires.c_there

pub returns-clause-means : goal.returns-clause-means
returns-clause-means c =
    IsEntry-not c.carry_of.new.formula c.in_ok-carry.carry c.negation-2.result _ _ c.in_ok-carry.ensures.means c.negation-2.ensures.value c.negation-2.ensures.there
    (λ v. borrowed v c.args.x.now c.args.y.now c.inverted.result c.args.c c.negation.result c.told-y (c.inverted.ensures.value v) (c.negation.ensures.value v))
