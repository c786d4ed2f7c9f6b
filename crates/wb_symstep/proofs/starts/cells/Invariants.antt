use Rattle.wb_symstep.proofs.Starting.{AreFirst}
use Rattle.wb_symstep.proofs.starts.cells.Given as goal

abbrev pub invariant-loop-place : goal.invariant-loop-place
invariant-loop-place l = AreFirst l.fn.graph l.graph l.words.items l.place
