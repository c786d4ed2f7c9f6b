use Rattle.std.proofs.Common.{◌≡◌, ◌≤◌, ◌++◌, drop}
use Rattle.wb_report.specs.Dialogues.{access_lines}
use Rattle.wb_report.proofs.dialogues.push_accesses.Given as goal

abbrev pub invariant-loop-place : goal.invariant-loop-place
invariant-loop-place l = record {
  few : l.before ≤ l.place;
  text : l.text.items ++ access_lines l.heard l.before (drop l.place l.talk.accesses) ≡ l.initial.text.items ++ access_lines l.heard 0 l.talk.accesses;
}
