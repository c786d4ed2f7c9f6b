use Rattle.std.proofs.Common.{◌∙◌, arith}
use Rattle.wb_report.proofs.Lines.{line_more}
use Rattle.wb_report.proofs.dialogues.push_accesses.Goals as goal

pub loop-place-preserved : goal.loop-place-preserved
loop-place-preserved c =
    let before = c.loop-place in
    let few = before.invariant.few in
    let one = c.asked-before.ensures.one in
    record {
      few = omega arith;
      text =
          line_more c.args.heard.now c.args.talk.now.accesses before.place before.before c.asked-before.result c.at-access.result
          before.text.items c.push_line.new.text.items c.access_line.result.bytes c.at-access.ensures
          c.in_ok-push_line.ensures c.access_line.ensures c.asked-before.ensures.value
          ∙ before.invariant.text;
    }
