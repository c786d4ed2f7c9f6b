use Rattle.std.proofs.Common.{◌≡◌}
use Rattle.wb_symstep.specs.State.{IsSymState}
use Rattle.wb_executed.proofs.symport.worked.to_request.Given as goal

abbrev pub invariant-loop : goal.invariant-loop
invariant-loop g l = IsSymState l.graph l.state × (l.graph.tables.first ≡ l.image.drom)
