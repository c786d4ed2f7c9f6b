use Rattle.std.proofs.Common.{refl}
use Rattle.wb_symstep.proofs.Starting.{one_more}
use Rattle.wb_symstep.proofs.starts.cells.Goals as goal

pub loop-place-preserved : goal.loop-place-preserved
loop-place-preserved c =
    one_more c.args.graph.now c.loop-place.graph c.mk_cell.new.graph c.loop-place.words.items c.push.new.self.items c.in_ok-cell.cell
    c.loop-place.place c.loop-place.place c.loop-place.invariant c.loop-place-test.true refl
    c.in_ok-cell.ensures.value c.in_ok-cell.ensures.inputs c.mk_cell.ensures.grown c.mk_cell.ensures.adds c.in_ok-push.ensures.items
