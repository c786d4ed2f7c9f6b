use Rattle.std.proofs.Common.{◌<◌, length, arith}
use Rattle.wb_syntax.proofs.Lines.{advance}
use Rattle.wb_syntax.proofs.parser.parse.Goals as goal

pub loop-rest-preserved-in_ok-push-in-Ok : goal.loop-rest-preserved-in_ok-push-in-Ok
loop-rest-preserved-in_ok-push-in-Ok c =
    let here = rw (c.in-Some.is, c.split_first.ensures.parts) at c.loop-rest.invariant in
    let some : 0 < length c.split_first.result.0.now = grind (arith, c.is_empty.ensures) in
    advance _ _ _ _ _ here c.in-Ok.statement _ some c.in-Ok.ensures c.in_ok-push-in-Ok.ensures.items
