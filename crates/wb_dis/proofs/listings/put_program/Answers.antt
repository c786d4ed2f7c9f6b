use Rattle.std.proofs.Common.{◌<◌, length, arith}
use Rattle.wb_dis.specs.Listing.{program_line}
use Rattle.wb_dis.proofs.Numbered.{line_appended}
use Rattle.wb_dis.proofs.listings.put_program.Goals as goal

pub loop-value-preserved : goal.loop-value-preserved
loop-value-preserved c =
    let words = c.args.image.now.prog in
    let within : c.loop-value.value < length words = omega (arith, c.args.image.now.prog_table.len) in
    record {
      text = line_appended program_line words c.loop-value.value c.word_at.result.value c.args.text.now.items _ _ _ within c.loop-value.invariant.text c.program_line.ensures.text c.word_at.ensures c.put.ensures.text;
      length = omega arith;
      room = omega arith;
    }
