use Rattle.std.proofs.Common.{◌≡◌, Some, sym, ◌∙◌, ap, subst}
use Rattle.std.specs.List.{slice_get}
use Rattle.wb_solve.specs.declared.links.Operands.{Operands}
use Rattle.wb_solve.specs.Linking.{IsFree}
use Rattle.wb_solve.proofs.Linked.{kept_link}
use Rattle.wb_solve.proofs.links.Links.before.Goals as goal

pub returns-then-named-var : goal.returns-then-named-var
returns-then-named-var c =
    let f = c.args.formula.now in
    let link = c.index-link.result.now in
    let gate = subst (λ n. slice_get f.gates n ≡ Some c.gate_at.result) c.from.ensures c.gate_at.ensures.gate in
    let at = kept_link f c.args.self.now c.args.number link c.requires.linked c.requires.number c.index-link.ensures in
    let is = c.requires.linked.each c.args.number c.gate_at.result link gate at in
    subst (λ x. IsFree f.gates x link.first c.args.number) (ap (λ (o : Operands). o.first.var) (sym c.named_by-named.ensures.operands) ∙ c.if-named-var.true) is.first

pub returns-then-named-var-2 : goal.returns-then-named-var-2
returns-then-named-var-2 c =
    let f = c.args.formula.now in
    let link = c.index-link.result.now in
    let gate = subst (λ n. slice_get f.gates n ≡ Some c.gate_at.result) c.from.ensures c.gate_at.ensures.gate in
    let at = kept_link f c.args.self.now c.args.number link c.requires.linked c.requires.number c.index-link.ensures in
    let is = c.requires.linked.each c.args.number c.gate_at.result link gate at in
    subst (λ x. IsFree f.gates x link.second c.args.number) (ap (λ (o : Operands). o.second.var) (sym c.named_by-named.ensures.operands) ∙ c.if-named-var-2.true) is.second

pub returns-then-named-var-3 : goal.returns-then-named-var-3
returns-then-named-var-3 c =
    let f = c.args.formula.now in
    let link = c.index-link.result.now in
    let gate = subst (λ n. slice_get f.gates n ≡ Some c.gate_at.result) c.from.ensures c.gate_at.ensures.gate in
    let at = kept_link f c.args.self.now c.args.number link c.requires.linked c.requires.number c.index-link.ensures in
    let is = c.requires.linked.each c.args.number c.gate_at.result link gate at in
    subst (λ x. IsFree f.gates x link.third c.args.number) (ap (λ (o : Operands). o.third.var) (sym c.named_by-named.ensures.operands) ∙ c.if-named-var-3.true) is.third
