use Rattle.std.proofs.Common.{length, ◌∙◌, sym, arith}
use Rattle.wb_solve.specs.Trails.{marked}
use Rattle.wb_solve.proofs.Marking.{marks_taken, named_less}
use Rattle.wb_solve.proofs.marks.Marks.mark_clause.Goals as goal

pub loop-lit-preserved : goal.loop-lit-preserved
loop-lit-preserved c = record {
  so_far = marks_taken (marked c.loop-lit.self) (marked c.mark.new.self) c.args.clause.now c.loop-lit.lit-index _ (omega (arith, c.loop-lit-test.true)) c.mark.ensures.more c.mark.ensures.marked c.loop-lit.invariant.so_far;
  named = named_less (length c.loop-lit.self.stamps) (length c.mark.new.self.stamps) c.args.clause.now c.loop-lit.lit-index (sym c.mark.ensures.variables) c.loop-lit.invariant.named;
  more = λ x h. c.mark.ensures.more x (c.loop-lit.invariant.more x h);
  stamps = c.mark.ensures.variables ∙ c.loop-lit.invariant.stamps;
}
