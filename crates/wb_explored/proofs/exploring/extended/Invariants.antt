use Rattle.std.proofs.Common.{◌≡◌, take}
use Rattle.wb_explored.specs.Explorations.{IsUnderWay}
use Rattle.wb_explored.proofs.exploring.extended.Given as goal

abbrev pub invariant-loop-at : goal.invariant-loop-at
invariant-loop-at g l =
    IsUnderWay l.graph l.image l.fn.start.plan (take l.at l.kinds) l.layer l.purse.reached
    × (l.purse.budget ≡ l.initial.purse.budget)
    × (g.O.Oracle.limit_of l.oracle ≡ l.initial.purse.budget.conflicts)
    × (g.O.Oracle.is_sound l.oracle ≡ g.O.Oracle.is_sound l.initial.oracle)
