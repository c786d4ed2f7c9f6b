use Rattle.std.proofs.Common.{rules, ◌≡◌, Bool, Option, None, replicate}
use Rattle.wb_solve.proofs.Trailing.{trail_first}
use Rattle.wb_solve.proofs.trail.Trail.new.Goals as goal

pub invariant_of-result : goal.invariant_of-result
invariant_of-result c =
    let items : c.in_ok-values.values.items ≡ replicate {A = Option Bool} c.args.variables None = search rules in
    rw (c.new.ensures.items, items) (trail_first c.args.variables)
