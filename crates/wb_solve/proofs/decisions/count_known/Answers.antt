use Rattle.std.proofs.Common.{◌+◌, ◌*◌, ◌≤◌, ◌^◌, length, ◌∙◌, sym, ap, arith}
use Rattle.wb_gate.specs.Clauses.{clauses_of}
use Rattle.wb_solve.proofs.Findings.{clauses_few, length_known}
use Rattle.wb_solve.proofs.decisions.count_known.Goals as goal

pub overflow_add-result : goal.overflow_add-result
overflow_add-result c =
    let few : length (clauses_of c.args.formula.now) ≤ 6 * length c.args.formula.now.gates + 1 = clauses_few c.args.formula.now in
    let gates : c.gates-gates.result ≤ 2 ^ 31 = c.gates-gates.ensures.few in
    omega (arith, few, gates, c.gates-gates.ensures.value, c.clauses.ensures)

pub returns : goal.returns
returns c =
    ap (λ n. n + length c.args.steps.now) c.clauses.ensures ∙ sym (length_known c.args.formula.now c.args.steps.now)
