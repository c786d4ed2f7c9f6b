use Rattle.std.proofs.Common.{◌≡◌, ◌∙◌, ◌+◌, Some, sym, ap, subst}
use Rattle.wb_gate.specs.Circuit.{Circuit, variable, gate_value}
use Rattle.wb_gate.specs.Growth.{IsLit}
use Rattle.wb_equal.proofs.Gates.{gate_eq-same, gate_lit}
use Rattle.wb_equal.proofs.sharing.Sharing.find.Goals as goal

pub returns-then-eq : goal.returns-then-eq
returns-then-eq c =
    let number = c.in_ok-number.field-0.now in
    let formula = c.self.inside.formula in
    let same : c.gate_at.result ≡ c.args.gate = gate_eq-same c.gate_at.result c.args.gate (sym c.eq.ensures ∙ c.if-eq.true) in
    subst (λ (k : Circuit). IsLit k (variable (c.inputs.result + number)) (λ v. gate_value v c.args.gate)) c.self.view_is
    (subst (λ n. IsLit formula (variable (n + number)) (λ v. gate_value v c.args.gate)) (sym c.inputs.ensures.value)
    (gate_lit formula number c.args.gate (c.gate_at.ensures.gate ∙ ap Some same)))
