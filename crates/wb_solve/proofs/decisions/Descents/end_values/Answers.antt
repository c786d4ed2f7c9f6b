use Rattle.wb_solve.proofs.Ending.{values_are}
use Rattle.wb_solve.proofs.decisions.Descents.end_values.Goals as goal

pub returns : goal.returns
returns c =
    values_are c.args.formula.now c.args.steps.now c.args.self.now c.requires.steps c.values.result.now c.of_descent.result c.requires.halted c.values.ensures.values c.values.ensures.covers c.of_descent.ensures
