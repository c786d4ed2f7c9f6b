use Rattle.wb_known.proofs.sources.odd.Goals as goal

pub returns-in-Fixed-true-default-clause-there : goal.returns-in-Fixed-true-default-clause-there
returns-in-Fixed-true-default-clause-there c g here a b = c.turned.ensures.there g b

pub returns-in_default-Fixed-true-clause-there : goal.returns-in_default-Fixed-true-clause-there
returns-in_default-Fixed-true-clause-there c g here a b = c.turned-in_default-Fixed-true.ensures.there g a
