use Rattle.wb_blast.proofs.products.masked.Goals as goal

pub combine_words-requires-clause-y_there : goal.combine_words-requires-clause-y_there
combine_words-requires-clause-y_there c = c.constant_word-none.ensures.there _

pub combine_words-requires-2-clause-y_there : goal.combine_words-requires-2-clause-y_there
combine_words-requires-2-clause-y_there c = c.constant_word-none.ensures.there _
