use Rattle.std.proofs.Common.{◌≢◌, take, All}
use Rattle.wb_explore.proofs.entries.place_of.Given as goal

abbrev pub invariant-loop-place : goal.invariant-loop-place
invariant-loop-place l = All (λ e. e.key ≢ l.key) (take l.place l.pending)
