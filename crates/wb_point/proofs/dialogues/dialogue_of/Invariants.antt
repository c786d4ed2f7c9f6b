use Rattle.std.proofs.Common.{◌≡◌, take}
use Rattle.wb_port.specs.Talk.{dialogue}
use Rattle.wb_point.specs.Dialogues.{accesses_under, start_under}
use Rattle.wb_point.proofs.dialogues.dialogue_of.Given as goal

abbrev pub invariant-loop-place : goal.invariant-loop-place
invariant-loop-place l = l.dialogue ≡ dialogue (start_under l.fn.inputs l.fn.power) (accesses_under l.fn.inputs 0 (take l.place l.fn.kinds))
