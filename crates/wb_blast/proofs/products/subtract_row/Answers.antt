use Rattle.std.proofs.Common.{◌∙◌}
use Rattle.wb_blast.specs.Doubles.{double}
use Rattle.wb_blast.proofs.Doubled.{double_subtracted}
use Rattle.wb_blast.proofs.products.subtract_row.Goals as goal

pub add_doubles-requires-clause-y_there : goal.add_doubles-requires-clause-y_there
add_doubles-requires-clause-y_there c = c.complement.ensures.there _ c.in_ok-row.ensures.means.there

pub returns-clause-means : goal.returns-clause-means
returns-clause-means c =
    let last = c.in_ok-rest.ensures in
    let row = c.in_ok-row.row in
    record {
      there = last.means.there;
      value = λ v o.
          last.means.value v o
          ∙ double_subtracted (double v c.args.sum.now) (double v row) _ (double v c.complement.result) (c.complement.ensures.few v)
          (c.complement.ensures.value v) (c.in_ok-row.ensures.means.value v (last.extends.obeys v o));
    }
