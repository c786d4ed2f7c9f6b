use Rattle.std.proofs.Common.{◌≡◌, ◌+◌, ◌≤◌, ◌^◌, length, Some, ◌∙◌, ap, subst, arith}
use Rattle.std.specs.List.{slice_get}
use Rattle.wb_gate.specs.Circuit.{variable}
use Rattle.wb_gate.specs.Clauses.{gate_clauses, clauses_before}
use Rattle.wb_solve.specs.declared.links.Links.{Links}
use Rattle.wb_solve.specs.Linking.{operands, IsLink, IsEnd}
use Rattle.wb_solve.proofs.Gates.{before_few}
use Rattle.wb_solve.proofs.Linked.{linked_more}
use Rattle.wb_solve.proofs.links.Links.add.Goals as goal

pub overflow_add-self : goal.overflow_add-self
overflow_add-self c =
    let count : c.args.self.now.clauses ≡ clauses_before c.args.formula.now c.args.number = c.requires.linked.clause_count in
    let same : c.name.new.self.clauses ≡ c.args.self.now.clauses = c.name.ensures.clauses in
    let few = before_few c.args.formula.now c.args.number in
    let gates : length c.args.formula.now.gates ≤ 2 ^ 31 = subst (λ n. n ≤ 2 ^ 31) c.gates-gates.ensures.value c.gates-gates.ensures.few in
    omega (arith, count, same, few, gates, c.requires.number, c.clause_count.ensures.few)

pub returns : goal.returns
returns c =
    let f = c.args.formula.now in
    let old = c.args.self.now in
    let gate = c.gate_at-gate.result in
    let new : Links = record { ends = c.name.new.self.ends; gates = c.name.new.self.gates; clauses = c.name.new.self.clauses + c.clause_count.result } in
    let at = subst (λ n. slice_get f.gates n ≡ Some gate) c.from.ensures c.gate_at-gate.ensures.gate in
    let link = subst (λ n. IsLink f n (operands gate) c.next_link-link.result) c.requires.linked.gate_count (subst (λ o. IsLink f (length old.gates.items) o c.next_link-link.result) c.named_by-named.ensures.operands c.next_link-link.ensures) in
    let ends = subst (λ o. IsEnd old.ends.items c.name.new.self.ends.items o (c.args.number + 1)) c.named_by-named.ensures.operands c.name.ensures.ends in
    let same : c.name.new.self.clauses ≡ old.clauses = c.name.ensures.clauses in
    let count : c.clause_count.result ≡ length (gate_clauses (variable (f.inputs + c.args.number)) gate) = c.clause_count.ensures.value (variable (f.inputs + c.args.number)) in
    let counted : c.name.new.self.clauses + c.clause_count.result ≡ old.clauses + length (gate_clauses (variable (f.inputs + c.args.number)) gate) = omega (arith, same, count) in
    linked_more f c.args.number gate old new c.next_link-link.result at c.requires.linked link (ap (λ v. v.items) c.name.ensures.gates ∙ c.in_ok-push.ensures.items) ends counted
