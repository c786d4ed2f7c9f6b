use Rattle.std.proofs.Common.{subst}
use Rattle.wb_solve.specs.Search.{clauses_in}
use Rattle.wb_solve.specs.Trails.{made}
use Rattle.wb_solve.specs.Propagating.{IsOwnVisit}
use Rattle.wb_solve.proofs.Visiting.{all_visited, grows_on, passed_of}
use Rattle.wb_solve.proofs.propagation.Propagation.visit_all.Goals as goal

pub returns-clause-passed : goal.returns-clause-passed
returns-clause-passed c =
    let f = c.args.formula.now in
    let steps = clauses_in c.args.steps.now in
    let old = c.args.self.now in
    let mid = c.visit_own.new.self in
    let new = c.visit_users.new.self in
    let e = c.entry-var.result in
    let own = subst (IsOwnVisit f steps mid e.lit.var) c.in_default.is c.in_ok-clause.ensures.visit in
    passed_of f steps (made mid.trail.entries) mid new e.lit.var c.args.head c.visit_users.result c.visit_users.ensures.visits c.visit_users.ensures.grows
    (λ running users more. all_visited f steps old mid new c.args.head e c.entry-var.ensures.entry c.requires.done running own.0 c.in_ok-clause.ensures.grows more own.1 users)

pub returns-clause-grows : goal.returns-clause-grows
returns-clause-grows c = grows_on c.args.self.now.trail.entries c.visit_own.new.self.trail.entries c.visit_users.new.self.trail.entries c.visit_users.result c.in_ok-clause.ensures.grows c.visit_users.ensures.grows
