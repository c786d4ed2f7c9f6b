use Rattle.std.proofs.Common.{◌<◌, length, arith}
use Rattle.wb_dis.specs.Listing.{data_line}
use Rattle.wb_dis.proofs.Numbered.{line_appended}
use Rattle.wb_dis.proofs.listings.put_data.Goals as goal

pub loop-at-preserved : goal.loop-at-preserved
loop-at-preserved c =
    let words = c.args.image.now.drom in
    let within : c.loop-at.at < length words = omega (arith, c.args.image.now.drom_table.len) in
    record {
      text = line_appended data_line words c.loop-at.at c.drom_at.result c.args.text.now.items _ _ _ within c.loop-at.invariant.text c.data_line.ensures.text c.drom_at.ensures c.put.ensures.text;
      length = omega arith;
      room = omega arith;
    }
