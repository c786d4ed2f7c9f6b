use Rattle.std.proofs.Common.{◌≡◌, ◌-◌, arith, ap}
use Rattle.wb_gate.specs.Clauses.{clauses_before}
use Rattle.wb_gate.proofs.Counts.{found_in_gate, found_in_goal}
use Rattle.wb_gate.proofs.formulas.Formula.clause_at.Goals as goal

pub returns-then-place-gates-clause-clause : goal.returns-then-place-gates-clause-clause
returns-then-place-gates-clause-clause c =
    let self = c.args.self.now in
    let place = c.gate_of_clause-place.result in
    let rest : c.args.number - c.clauses_before.result ≡ c.args.number - clauses_before self place = ap (λ n. c.args.number - n) c.clauses_before.ensures.value in
    found_in_gate self place c.gate_at.result c.gate_at.ensures.gate c.args.number (c.args.number - c.clauses_before.result) c.gate_clause.result
    c.gate_of_clause-place.ensures.before (c.gate_of_clause-place.ensures.within (omega arith)) rest (rw c.variable.ensures at c.gate_clause.ensures)

pub returns-else-place-gates-clause-clause : goal.returns-else-place-gates-clause-clause
returns-else-place-gates-clause-clause c =
    let self = c.args.self.now in
    let place = c.gate_of_clause-place.result in
    let rest : c.args.number - c.clauses_before.result ≡ c.args.number - clauses_before self place = ap (λ n. c.args.number - n) c.clauses_before.ensures.value in
    found_in_goal self place c.args.number (c.args.number - c.clauses_before.result) c.goal_clause.result
    c.gate_of_clause-place.ensures.place (omega arith) c.gate_of_clause-place.ensures.before rest (rw c.goal.ensures at c.goal_clause.ensures)
