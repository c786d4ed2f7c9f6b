use Rattle.wb_blast.proofs.products.multiply_in_order.Goals as goal

pub multiply_plain-requires-clause-x_there : goal.multiply_plain-requires-clause-x_there
multiply_plain-requires-clause-x_there c = c.in_order.ensures.first_there _ c.requires.x_there c.requires.y_there

pub multiply_plain-requires-clause-y_there : goal.multiply_plain-requires-clause-y_there
multiply_plain-requires-clause-y_there c = c.in_order.ensures.second_there _ c.requires.x_there c.requires.y_there

pub multiply-requires-clause-x_there : goal.multiply-requires-clause-x_there
multiply-requires-clause-x_there c = c.in_order.ensures.first_there _ c.requires.x_there c.requires.y_there

pub multiply-requires-clause-y_there : goal.multiply-requires-clause-y_there
multiply-requires-clause-y_there c = c.in_order.ensures.second_there _ c.requires.x_there c.requires.y_there
