use Rattle.wb_equal.proofs.entries.mux.Goals as goal

pub and-requires-clause-x_there : goal.and-requires-clause-x_there
and-requires-clause-x_there c = c.negation.ensures.there _ c.requires.c_there

pub or-requires-in_default-default-T-clause-x_there : goal.or-requires-in_default-default-T-clause-x_there
or-requires-in_default-default-T-clause-x_there c = c.negation-in_default-default-T.ensures.there _ c.requires.c_there
