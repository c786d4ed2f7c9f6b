use Rattle.wb_gate.proofs.Counts.{formula-next}
use Rattle.wb_gate.proofs.formulas.Formula.append.Goals as goal

pub invariant_of-self-2 : goal.invariant_of-self-2
invariant_of-self-2 c =
    let f = c.self.inside in
    rw c.in_ok-push.ensures.items
    (formula-next f.inputs f.limit f.rows.items f.goal c.args.row c.args.self.now c.self.view_is c.self.invariant c.requires.below c.requires.room c.requires.end)

pub returns-clause-circuit : goal.returns-clause-circuit
returns-clause-circuit c =
    let f = c.self.inside in
    rw c.in_ok-push.ensures.items
    (formula-next f.inputs f.limit f.rows.items f.goal c.args.row c.args.self.now c.self.view_is c.self.invariant c.requires.below c.requires.room c.requires.end).circuit
