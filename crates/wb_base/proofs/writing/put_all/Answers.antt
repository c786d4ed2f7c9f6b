-- What was put so far and the bytes of one more put are the front of the text.
use Rattle.std.proofs.Common.{arith}
use Rattle.std.proofs.lemmas.List.{take_rest, length-drop}
use Rattle.wb_base.proofs.Pieces.{appends_more}
use Rattle.wb_base.proofs.writing.put_all.Goals as goal

pub putting-preserved : goal.putting-preserved
putting-preserved g c =
    let took = c.in_ok-at.ensures.put.0 in
    let calm = c.in_ok-at.ensures.put.1 in
    let bound = simp (take_rest, length-drop) at took.bound in
    (omega arith, cc, appends_more _ _ _ _ _ _ c.putting.invariant.2 took.appended)
