use Rattle.std.proofs.Common.{◌≡◌, length, arith}
use Rattle.wb_trace.proofs.Reading.{refuse_after}
use Rattle.wb_trace.proofs.reader.read_into.Goals as goal

pub returns-in-None-clause-err : goal.returns-in-None-clause-err
returns-in-None-clause-err c =
    let so_many : c.len-count.result ≡ length c.loop-rest.moves.items = omega arith in
    refuse_after c.args.text.now c.loop-rest.rest.now c.split_line.result.0.now c.split_line.result.1.now c.loop-rest.moves.items
    c.len-count.result so_many c.loop-rest.invariant.so_far c.split_line.ensures.first c.in-None.ensures
