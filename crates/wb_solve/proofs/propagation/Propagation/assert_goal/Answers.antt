use Rattle.std.proofs.Common.{◌-◌, refl, sym, ◌∙◌, ap}
use Rattle.wb_solve.specs.declared.propagation.Propagation.{Propagation}
use Rattle.wb_solve.proofs.Beginning.{started_always, started_never, started_lit}
use Rattle.wb_solve.proofs.propagation.Propagation.assert_goal.Goals as goal

pub returns-in-Always : goal.returns-in-Always
returns-in-Always c = started_always c.args.formula.now c.args.self.now c.requires (sym c.goal.ensures ∙ c.in-Always.is)

pub returns-in-Never : goal.returns-in-Never
returns-in-Never c = started_never c.args.formula.now c.args.self.now c.requires (c.clauses.result - 1) (sym c.goal.ensures ∙ c.in-Never.is) (ap (λ n. n - 1) c.clauses.ensures)

pub returns-in_ok-push-in-Lit : goal.returns-in_ok-push-in-Lit
returns-in_ok-push-in-Lit c =
    let new : Propagation = record { links = c.args.self.now.links; trail = c.push.new.self } in
    started_lit c.args.formula.now c.args.self.now c.requires c.in-Lit.lit (c.clauses-in-Lit.result - 1) new (sym c.goal.ensures ∙ c.in-Lit.is) (ap (λ n. n - 1) c.clauses-in-Lit.ensures) refl c.in_ok-push-in-Lit.ensures.entries c.in_ok-push-in-Lit.ensures.variables
