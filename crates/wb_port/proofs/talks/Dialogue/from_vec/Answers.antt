use Rattle.std.proofs.Common.{All, subst}
use Rattle.wb_port.specs.Talk.{IsByteAccess}
use Rattle.wb_port.proofs.Starts.{zero_talk}
use Rattle.wb_port.proofs.talks.Dialogue.from_vec.Goals as goal

pub invariant_of-result : goal.invariant_of-result
invariant_of-result c =
    zero_talk c.args.accesses.items (subst (All IsByteAccess) c.deref.ensures.value c.see_bytes.ensures)
