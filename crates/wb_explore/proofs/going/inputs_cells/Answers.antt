use Rattle.std.proofs.Common.{length, ap, ◌∙◌, arith}
use Rattle.std.proofs.lemmas.List.{take_all}
use Rattle.wb_explore.proofs.going.inputs_cells.Goals as goal

pub returns-clause-cells : goal.returns-clause-cells
returns-clause-cells c =
    let long = c.cell-first.ensures.assignment.cells_len in
    c.loop-place.invariant ∙ take_all c.loop-place.place c.args.inputs.now.cells (omega (arith, long))

pub returns-clause-len : goal.returns-clause-len
returns-clause-len c =
    let long = c.cell-first.ensures.assignment.cells_len in
    ap length (c.loop-place.invariant ∙ take_all c.loop-place.place c.args.inputs.now.cells (omega (arith, long))) ∙ long
