use Rattle.std.proofs.Common.{arith}
use Rattle.wb_solve.specs.declared.trail.Entry.{Entry}
use Rattle.wb_solve.proofs.Trailing.{trail_push}
use Rattle.wb_solve.proofs.trail.Trail.push.Goals as goal

pub invariant_of-self-2 : goal.invariant_of-self-2
invariant_of-self-2 c =
    let e : Entry = record { lit = c.args.lit; reason = c.args.reason } in
    rw c.in_ok-push.ensures.items
    (trail_push c.self.inside.entries.items c.self.inside.values.items e c.self.invariant
    (rw (← c.self.view_is) at c.requires.below) (rw (← c.self.view_is) at c.requires.still_open))

pub returns-clause-few : goal.returns-clause-few
returns-clause-few c =
    let e : Entry = record { lit = c.args.lit; reason = c.args.reason } in
    let is = trail_push c.self.inside.entries.items c.self.inside.values.items e c.self.invariant
    (rw (← c.self.view_is) at c.requires.below) (rw (← c.self.view_is) at c.requires.still_open) in
    let count = is.count in
    rw c.in_ok-push.ensures.items (omega (arith, count))
