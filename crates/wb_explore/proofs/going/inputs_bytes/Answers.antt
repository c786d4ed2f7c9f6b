use Rattle.std.proofs.Common.{length, ap, ◌∙◌, arith}
use Rattle.std.proofs.lemmas.List.{take_all}
use Rattle.wb_explore.proofs.going.inputs_bytes.Goals as goal

pub returns-clause-bytes : goal.returns-clause-bytes
returns-clause-bytes c =
    let long = c.byte-first.ensures.assignment.bytes_len in
    c.loop-place.invariant ∙ take_all c.loop-place.place c.args.inputs.now.bytes (omega (arith, long))

pub returns-clause-len : goal.returns-clause-len
returns-clause-len c =
    let long = c.byte-first.ensures.assignment.bytes_len in
    ap length (c.loop-place.invariant ∙ take_all c.loop-place.place c.args.inputs.now.bytes (omega (arith, long))) ∙ long
