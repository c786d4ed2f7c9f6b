use Rattle.std.proofs.Common.{◌≢◌, arith}
use Rattle.wb_diagram.proofs.Walks.{Leads-start, Leads-step, Leads-end}
use Rattle.wb_diagram.proofs.diagrams.Diagrams.path.Goals as goal

pub down-init : goal.down-init
down-init c =
    let number = c.leaf.ensures.number in
    let unequal = c.if-eq.ensures in
    let some : c.args.d.number ≢ 0 = λ e. grind arith in
    record { there = c.requires; some = some; leads = Leads-start _ _ _ _ c.new-turns.ensures.items }

pub returns-in-Leaf-clause-some : goal.returns-in-Leaf-clause-some
returns-in-Leaf-clause-some c =
    Leads-end _ _ _ _ c.in-Leaf.field-0 _ c.down.invariant.leads c.in-Leaf.ensures.placed c.down.invariant.some

pub down-preserved : goal.down-preserved
down-preserved c =
    let step = Leads-step _ _ _ _ _ _ _ _ _ _ _ c.down.invariant.leads c.down.invariant.there c.in-Split.ensures.node c.in-Split.ensures.placed
    c.turn_at-side.ensures c.side_of-at.ensures c.in_ok-push-in-Split.ensures.items in
    record { there = step.0; some = step.1; leads = step.2 }
