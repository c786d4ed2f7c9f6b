use Rattle.std.proofs.Common.{◌≡◌, ◌+◌, ◌-◌, arith}
use Rattle.wb_solve.specs.Search.{clauses_in}
use Rattle.wb_solve.proofs.Visiting.{own_visit}
use Rattle.wb_solve.proofs.propagation.Propagation.visit_own.Goals as goal

pub returns-clause-visit : goal.returns-clause-visit
returns-clause-visit c =
    let number = c.args.var - c.inputs-inputs.result in
    let same : c.args.formula.now.inputs + number ≡ c.args.var = omega (arith, c.inputs-inputs.ensures.value, c.if-var-inputs.false) in
    own_visit c.args.formula.now (clauses_in c.args.steps.now) c.visit.new.self c.args.var number c.visit.result same c.visit.ensures.visit
