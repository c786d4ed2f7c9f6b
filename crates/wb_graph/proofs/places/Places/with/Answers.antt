use Rattle.std.proofs.Common.{◌∙◌, arith}
use Rattle.std.proofs.lemmas.List.{length-set}
use Rattle.wb_graph.proofs.Bytes.{joined-more}
use Rattle.wb_graph.proofs.places.Places.with.Goals as goal

pub loop-at-preserved : goal.loop-at-preserved
loop-at-preserved c = record {
  count = length-set c.loop-at.bytes c.loop-at.at _ ∙ c.loop-at.invariant.count;
  byte = joined-more c.loop-at.bytes c.args.self.now.bytes c.args.other.now.bytes c.loop-at.at (omega (arith, c.loop-at.invariant.count, c.loop-at-test.true)) c.loop-at.invariant.byte;
}
