use Rattle.std.proofs.Common.{◌≡◌, take}
use Rattle.wb_point.specs.Dialogues.{transfer_bytes}
use Rattle.wb_point.proofs.dialogues.inputs_of.Given as goal

abbrev pub invariant-loop-access : goal.invariant-loop-access
invariant-loop-access l = l.bytes.items ≡ transfer_bytes (take l.access-index l.fn.dialogue.accesses)
