use Rattle.std.proofs.Common.{◌∙◌}
use Rattle.wb_gate.specs.Circuit.{lit_value}
use Rattle.wb_equal.proofs.Gates.{most_ordered}
use Rattle.wb_equal.proofs.entries.majority_gate.Goals as goal

pub gate-requires-clause-there : goal.gate-requires-clause-there
gate-requires-clause-there c =
    let one = c.in_order.ensures.there _ c.requires.a_there c.requires.b_there in
    let two = c.in_order-2.ensures.there _ one.1 c.requires.c_there in
    let three = c.in_order-3.ensures.there _ one.0 two.0 in
    (three.0, three.1, two.1)

pub returns-clause-means : goal.returns-clause-means
returns-clause-means c =
    let is = c.in_ok-entry.ensures.means in
    let one = c.in_order.result in
    let two = c.in_order-2.result in
    let three = c.in_order-3.result in
    record {
      there = is.there;
      value = λ v o. is.value v o
          ∙ most_ordered (lit_value v c.args.a) (lit_value v c.args.b) (lit_value v c.args.c) (lit_value v one.0) (lit_value v one.1) (lit_value v two.0) (lit_value v two.1)
          (lit_value v three.0) (lit_value v three.1) (c.in_order.ensures.both v) (c.in_order.ensures.either v) (c.in_order-2.ensures.both v) (c.in_order-2.ensures.either v)
          (c.in_order-3.ensures.both v) (c.in_order-3.ensures.either v);
    }
