use Rattle.std.proofs.Common.{◌≡◌}
use Rattle.wb_explore.specs.Transfers.{AreServed}
use Rattle.wb_explore.proofs.transfers.give_all.Given as goal

abbrev pub invariant-loop-at : goal.invariant-loop-at
invariant-loop-at l =
    AreServed l.fn.graph l.graph l.image l.longer l.layer l.initial.purse.reached l.purse.reached l.at l.pending.items
    × (l.purse.budget ≡ l.initial.purse.budget)
