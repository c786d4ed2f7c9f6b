use Rattle.std.proofs.Common.{◌≡◌, ◌++◌, drop}
use Rattle.wb_report.specs.Dialogues.{start_lines}
use Rattle.wb_report.proofs.dialogues.push_start.Given as goal

abbrev pub invariant-loop-at : goal.invariant-loop-at
invariant-loop-at l =
    l.text.items ++ start_lines l.at (drop l.at l.talk.start) ≡ l.initial.text.items ++ start_lines 0 l.talk.start
