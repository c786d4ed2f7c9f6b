use Rattle.std.proofs.Common.{◌≡◌, ◌+◌, ◌≤◌, ◌^◌, [], ◌∷◌, ◌++◌, length, Some, refl, sym, subst, arith}
use Rattle.std.specs.List.{slice_get}
use Rattle.wb_gate.specs.Circuit.{variable}
use Rattle.wb_gate.specs.Clauses.{gate_clauses, clauses_of}
use Rattle.wb_solve.specs.declared.trail.Reason.TheVariants.{Clause}
use Rattle.wb_solve.specs.Descent.{IsUnitAt}
use Rattle.wb_solve.specs.Search.{clauses_in}
use Rattle.wb_solve.specs.Turns.{FalsifiedAt}
use Rattle.wb_solve.specs.Trails.{made}
use Rattle.wb_solve.specs.Judging.{IsFound}
use Rattle.wb_solve.proofs.Growing.{grows_trans}
use Rattle.wb_solve.proofs.Visiting.{running_push, gate_unit, gate_falsified, gate_quiet, unit_below}
use Rattle.wb_solve.proofs.propagation.Propagation.visit.Goals as goal

pub overflow_add-lit : goal.overflow_add-lit
overflow_add-lit c =
    let gates : length c.args.formula.now.gates ≤ 2 ^ 31 = subst (λ n. n ≤ 2 ^ 31) c.gates-gates.ensures.value c.gates-gates.ensures.few in
    omega (arith, gates, c.requires.number, c.inputs.ensures.few)

pub returns-in-Nothing-clause-visit : goal.returns-in-Nothing-clause-visit
returns-in-Nothing-clause-visit c =
    let f = c.args.formula.now in
    let p = made c.loop-place.self.trail.entries in
    let gate = c.gate_at-gate.result in
    let at = subst (λ n. slice_get f.gates n ≡ Some gate) c.from.ensures c.gate_at-gate.ensures.gate in
    let is = subst (λ n. IsFound p 0 (gate_clauses (variable (n + c.args.number)) gate) c.judge.result) c.inputs.ensures.value c.judge.ensures in
    let quiet = subst (IsFound p 0 (gate_clauses (variable (f.inputs + c.args.number)) gate)) c.in-Nothing.is is in
    (c.loop-place.invariant.running, gate_quiet f (clauses_in c.args.steps.now) p c.args.number gate at quiet)

pub returns-in-Falsified-clause-visit : goal.returns-in-Falsified-clause-visit
returns-in-Falsified-clause-visit c =
    let f = c.args.formula.now in
    let steps = clauses_in c.args.steps.now in
    let p = made c.loop-place.self.trail.entries in
    let gate = c.gate_at-gate.result in
    let at = subst (λ n. slice_get f.gates n ≡ Some gate) c.from.ensures c.gate_at-gate.ensures.gate in
    let is = subst (λ n. IsFound p 0 (gate_clauses (variable (n + c.args.number)) gate) c.judge.result) c.inputs.ensures.value c.judge.ensures in
    let fallen = subst (IsFound p 0 (gate_clauses (variable (f.inputs + c.args.number)) gate)) c.in-Falsified.is is in
    let known = gate_falsified f steps p c.args.number gate at c.in-Falsified.place fallen.0 fallen.1 fallen.2 in
    (c.loop-place.invariant.running, subst (λ n. FalsifiedAt (clauses_of f ++ steps) p (n + c.in-Falsified.place)) (sym c.clause.ensures.value) known)

pub push-requires-clause-below : goal.push-requires-clause-below
push-requires-clause-below c =
    let f = c.args.formula.now in
    let s = c.loop-place.self in
    let p = made s.trail.entries in
    let gate = c.gate_at-gate.result in
    let at = subst (λ n. slice_get f.gates n ≡ Some gate) c.from.ensures c.gate_at-gate.ensures.gate in
    let is = subst (λ n. IsFound p 0 (gate_clauses (variable (n + c.args.number)) gate) c.judge.result) c.inputs.ensures.value c.judge.ensures in
    let unit = subst (IsFound p 0 (gate_clauses (variable (f.inputs + c.args.number)) gate)) c.in-Unit.is is in
    unit_below f (clauses_in c.args.steps.now) s.links s.trail c.args.number gate unit.0 c.in-Unit.open c.loop-place.invariant.running at unit.2

pub loop-place-preserved : goal.loop-place-preserved
loop-place-preserved c =
    let f = c.args.formula.now in
    let steps = clauses_in c.args.steps.now in
    let s = c.loop-place.self in
    let p = made s.trail.entries in
    let gate = c.gate_at-gate.result in
    let number = c.clause-in-Unit.result + c.in-Unit.place in
    let at = subst (λ n. slice_get f.gates n ≡ Some gate) c.from.ensures c.gate_at-gate.ensures.gate in
    let is = subst (λ n. IsFound p 0 (gate_clauses (variable (n + c.args.number)) gate) c.judge.result) c.inputs.ensures.value c.judge.ensures in
    let unit = subst (IsFound p 0 (gate_clauses (variable (f.inputs + c.args.number)) gate)) c.in-Unit.is is in
    let known = gate_unit f steps p c.args.number gate at c.in-Unit.place unit.0 c.in-Unit.open unit.1 unit.2 in
    let here = subst (λ n. IsUnitAt (clauses_of f ++ steps) p (n + c.in-Unit.place) c.in-Unit.open) (sym c.clause-in-Unit.ensures.value) known in
    record {
      running = running_push f steps s.links s.trail c.push.new.self c.in-Unit.open number c.in_ok-push-in-Unit.ensures.entries c.in_ok-push-in-Unit.ensures.variables here c.loop-place.invariant.running;
      grows = grows_trans c.args.self.now.trail.entries s.trail.entries c.push.new.self.entries c.loop-place.invariant.grows (record { lit = c.in-Unit.open; reason = Clause number } ∷ [], c.in_ok-push-in-Unit.ensures.entries, refl);
    }
