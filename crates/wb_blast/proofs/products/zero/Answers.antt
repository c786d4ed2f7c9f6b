use Rattle.wb_blast.proofs.products.zero.Goals as goal

pub returns-clause-there : goal.returns-clause-there
returns-clause-there c n = (c.constant_word.ensures.there n, c.constant_word-2.ensures.there n)
