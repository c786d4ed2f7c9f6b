use Rattle.std.proofs.Common.{◌≡◌, ◌+◌, ◌*◌, ◌≤◌, ◌++◌, drop, vec_len}
use Rattle.std.specs.Vec.{vec_capacity}
use Rattle.wb_trace.specs.Texts.{lines_text}
use Rattle.wb_trace.specs.Trace.{traced, traced_lines}
use Rattle.wb_trace.proofs.reports.report.Given as goal

abbrev pub invariant-loop-place : goal.invariant-loop-place
invariant-loop-place l = record {
  trace : traced l.a l.b (drop l.place l.moves) l.trace ≡ traced l.a l.b l.moves l.initial.trace;
  text : l.text.items ++ lines_text (traced_lines l.a l.b (drop l.place l.moves) l.trace) ≡ l.initial.text.items ++ lines_text (traced_lines l.a l.b l.moves l.initial.trace);
  room : vec_capacity l.initial.text ≤ vec_capacity l.text;
  len : vec_len l.text ≤ vec_len l.initial.text + 56 * l.place;
}
