use Rattle.wb_gate.proofs.Counts.{row_few}
use Rattle.wb_gate.proofs.formulas.Formula.clauses_to.Goals as goal

pub returns-clause-few : goal.returns-clause-few
returns-clause-few c =
    let f = c.self.inside in
    row_few f.inputs f.limit f.rows.items f.goal c.args.self.now c.self.view_is c.self.invariant c.args.place c.requires c.index.result.now c.index.ensures
