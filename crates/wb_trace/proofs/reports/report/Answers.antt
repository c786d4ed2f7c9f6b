use Rattle.std.proofs.Common.{◌∙◌, arith}
use Rattle.wb_trace.proofs.Texts.{traced_more, lines_more}
use Rattle.wb_trace.proofs.reports.report.Goals as goal

pub loop-place-preserved : goal.loop-place-preserved
loop-place-preserved c =
    let before = c.loop-place in
    let a = c.args.a.now in
    let b = c.args.b.now in
    let moves = c.args.moves.now in
    let mv = c.at-mv.result in
    let room_before = before.invariant.room in
    let room_after = c.push_line.ensures.room in
    let len_before = before.invariant.len in
    let len_after = c.push_line.ensures.len in
    record {
      trace = traced_more a b moves before.place mv c.at-mv.ensures before.trace c.apply-moved.new.self c.apply-moved.ensures.after ∙ before.invariant.trace;
      text =
          rw c.push_line.ensures.items
          (lines_more a b moves before.place mv c.at-mv.ensures before.trace c.apply-moved.new.self c.apply-moved.ensures.after before.text.items c.apply-moved.result c.apply-moved.ensures.moved ∙ before.invariant.text);
      room = omega arith;
      len = omega arith;
    }
