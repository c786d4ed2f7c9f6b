use Rattle.std.proofs.Common.{◌++◌, ◌∙◌, ap, append_assoc, arith, take}
use Rattle.std.specs.List.{flat_map}
use Rattle.wb_session.proofs.Runs.{flat_map_taken}
use Rattle.wb_session.specs.Texts.{with_feed, line_text}
use Rattle.wb_session.proofs.reports.write_transcript.Goals as goal

pub loop-place-preserved : goal.loop-place-preserved
loop-place-preserved c =
    let before = c.loop-place.invariant in
    let room_before = before.room in
    let room_after = c.push_line.ensures.room in
    let len_before = before.len in
    let len_after = c.push_line.ensures.len in
    let short = c.text.ensures.len in
    record {
      text =
          rw (c.push_line.ensures.items, c.text.ensures.bytes, flat_map_taken (λ line. with_feed (line_text line)) c.args.t.now.lines c.loop-place.place c.at.result c.at.ensures)
          (ap (λ bytes. bytes ++ with_feed (line_text c.at.result)) before.text
          ∙ append_assoc c.args.text.now.items (flat_map (λ line. with_feed (line_text line)) (take c.loop-place.place c.args.t.now.lines)) (with_feed (line_text c.at.result)));
      room = omega arith;
      len = omega arith;
    }
