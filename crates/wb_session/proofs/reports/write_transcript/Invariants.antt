use Rattle.std.proofs.Common.{◌≡◌, ◌≤◌, ◌+◌, ◌*◌, ◌++◌, take, vec_len}
use Rattle.std.specs.List.{flat_map}
use Rattle.std.specs.Vec.{vec_capacity}
use Rattle.wb_session.specs.Texts.{with_feed, line_text}
use Rattle.wb_session.proofs.reports.write_transcript.Given as goal

abbrev pub invariant-loop-place : goal.invariant-loop-place
invariant-loop-place l = record {
  text : l.text.items ≡ l.initial.text.items ++ flat_map (λ line. with_feed (line_text line)) (take l.place l.t.lines);
  room : vec_capacity l.initial.text ≤ vec_capacity l.text;
  len : vec_len l.text ≤ vec_len l.initial.text + 11 * l.place;
}
