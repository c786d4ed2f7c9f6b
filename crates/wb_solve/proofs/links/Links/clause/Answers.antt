use Rattle.std.proofs.Common.{◌≡◌, arith}
use Rattle.wb_gate.specs.Clauses.{clauses_before}
use Rattle.wb_solve.proofs.Gates.{before_few}
use Rattle.wb_solve.proofs.Linked.{gate_within, kept_link}
use Rattle.wb_solve.proofs.links.Links.clause.Goals as goal

pub returns-clause-value : goal.returns-clause-value
returns-clause-value c =
    let gate = gate_within c.args.formula.now.gates c.args.number c.requires.number in
    let at = kept_link c.args.formula.now c.args.self.now c.args.number c.index.result.now c.requires.linked c.requires.number c.index.ensures in
    (c.requires.linked.each c.args.number gate.0 c.index.result.now gate.1 at).clause

pub returns-clause-few : goal.returns-clause-few
returns-clause-few c =
    let gate = gate_within c.args.formula.now.gates c.args.number c.requires.number in
    let at = kept_link c.args.formula.now c.args.self.now c.args.number c.index.result.now c.requires.linked c.requires.number c.index.ensures in
    let value : c.index.result.now.clause ≡ clauses_before c.args.formula.now c.args.number = (c.requires.linked.each c.args.number gate.0 c.index.result.now gate.1 at).clause in
    let few = before_few c.args.formula.now c.args.number in
    omega (arith, value, few)
