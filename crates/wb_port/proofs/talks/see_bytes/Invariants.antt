use Rattle.std.proofs.Common.{All, take}
use Rattle.wb_port.specs.Talk.{IsByteAccess}
use Rattle.wb_port.proofs.talks.see_bytes.Given as goal

abbrev pub invariant-loop-access : goal.invariant-loop-access
invariant-loop-access l = All IsByteAccess (take l.access-index l.accesses)
