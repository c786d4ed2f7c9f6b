use Rattle.std.proofs.Common.{refl}
use Rattle.wb_point.proofs.MergeBits.{merging_bits_more}
use Rattle.wb_point.proofs.lists.merge_bits.Goals as goal

pub loop-at-preserved : goal.loop-at-preserved
loop-at-preserved c =
    merging_bits_more c.args.graph.now c.loop-at.graph c.mk_iteb.new.graph c.args.cond c.args.yes.now c.args.no.now c.loop-at.bits.items c.push.new.self.items
    _ _ c.in_ok-bit.bit c.loop-at.at c.loop-at.invariant c.requires.cond c.requires.yes c.requires.no
    c.requires.lengths c.loop-at-test.true refl refl
    c.in_ok-bit.ensures.value c.in_ok-bit.ensures.inputs c.mk_iteb.ensures.grown c.mk_iteb.ensures.adds c.in_ok-push.ensures.items
