use Rattle.std.proofs.Common.{◌≡◌, ◌+◌, ◌-◌, ◌≤◌, ◌++◌, subst, arith}
use Rattle.std.proofs.lemmas.Option.{slice_get_within}
use Rattle.wb_gate.specs.Clauses.{clauses_of}
use Rattle.wb_solve.specs.Search.{clauses_in}
use Rattle.wb_solve.specs.Trails.{made}
use Rattle.wb_solve.specs.Propagating.{IsVisit}
use Rattle.wb_solve.proofs.Growing.{grows_trans}
use Rattle.wb_solve.proofs.Visiting.{grown_below, grows_self, visited_more}
use Rattle.wb_solve.proofs.propagation.Propagation.visit_users.Goals as goal

pub loop-end-init : goal.loop-end-init
loop-end-init c = record {
  running = c.requires.running;
  visited = λ k gate from at names. absurd (c.end-end.ensures.none k gate from (slice_get_within c.args.formula.now.gates k gate at) at names);
  within = c.end-end.ensures.within;
  grows = grows_self c.args.self.now.trail.entries;
}

pub returns-in-Some-clause-grows : goal.returns-in-Some-clause-grows
returns-in-Some-clause-grows c = grows_trans c.args.self.now.trail.entries c.loop-end.self.trail.entries c.visit.new.self.trail.entries c.loop-end.invariant.grows c.in_ok-clause.ensures.grows

pub loop-end-preserved : goal.loop-end-preserved
loop-end-preserved c =
    let f = c.args.formula.now in
    let steps = clauses_in c.args.steps.now in
    let first = c.args.self.now.trail.entries in
    let s = c.loop-end.self in
    let t = c.visit.new.self in
    let number = c.loop-end.end - 1 in
    let visit = subst (IsVisit f steps t number) c.in_default.is c.in_ok-clause.ensures.visit in
    let same : c.loop-end.end ≡ number + 1 = omega (arith, c.loop-end-test.true) in
    let below = grown_below f.inputs (clauses_of f ++ steps) first s.trail.entries c.loop-end.invariant.running.just c.loop-end.invariant.grows in
    let above = grown_below f.inputs (clauses_of f ++ steps) s.trail.entries t.trail.entries visit.0.just c.in_ok-clause.ensures.grows in
    let free = c.before-end.ensures in
    let less = free.within in
    record {
      running = visit.0;
      visited = visited_more f c.args.var c.loop-end.end number c.before-end.result (made first) (made s.trail.entries) (made t.trail.entries) same c.loop-end.invariant.visited visit.1 below above free;
      within = omega (arith, less, same, c.loop-end.invariant.within);
      grows = grows_trans first s.trail.entries t.trail.entries c.loop-end.invariant.grows c.in_ok-clause.ensures.grows;
    }

pub returns-clause-visits : goal.returns-clause-visits
returns-clause-visits c =
    let none : c.loop-end.end ≤ 0 = omega (arith, c.loop-end-test.false) in
    (c.loop-end.invariant.running, λ k gate from at names. c.loop-end.invariant.visited k gate (omega (arith, none)) at names)
