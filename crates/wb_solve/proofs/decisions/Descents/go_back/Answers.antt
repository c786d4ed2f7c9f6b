use Rattle.std.proofs.Common.{◌≡◌, ◌-◌, length, take, refl, ◌∙◌, sym, ap, subst}
use Rattle.wb_solve.specs.Search.{clauses_in}
use Rattle.wb_solve.specs.Halting.{IsReady}
use Rattle.wb_solve.specs.declared.decisions.Descents.{Descents}
use Rattle.wb_solve.proofs.Halts.{taken_open, resumed}
use Rattle.wb_solve.proofs.decisions.Descents.go_back.Goals as goal

pub push-requires-clause-below : goal.push-requires-clause-below
push-requires-clause-below c = (taken_open c.args.formula.now c.args.steps.now c.args.self.now c.take_back-var.new.trail c.take_back-var.result c.requires c.take_back-var.ensures).1

pub push-requires-clause-still_open : goal.push-requires-clause-still_open
push-requires-clause-still_open c = (taken_open c.args.formula.now c.args.steps.now c.args.self.now c.take_back-var.new.trail c.take_back-var.result c.requires c.take_back-var.ensures).0

pub returns : goal.returns
returns c =
    let old = c.args.self.now in
    let new : Descents = record { propagation = record { links = old.propagation.links; trail = c.push.new.self }; marks = old.marks; hints = old.hints; assumed = c.pop.new.self; next = c.take_back-var.result } in
    let number = c.count_known-number.result - 1 in
    let items : c.pop.new.self.items ≡ take (length old.assumed.items - 1) old.assumed.items = c.pop.ensures.rest ∙ ap (λ n. take (n - 1) old.assumed.items) old.assumed.ok.0 in
    subst (λ head. IsReady c.args.formula.now (clauses_in c.args.steps.now) head new) (sym c.len-head.ensures.length)
    (resumed c.args.formula.now c.args.steps.now old new c.take_back-var.new.trail c.take_back-var.result number c.requires c.take_back-var.ensures (ap (λ n. n - 1) c.count_known-number.ensures) refl c.in_ok-push.ensures.entries c.in_ok-push.ensures.variables items refl refl)
