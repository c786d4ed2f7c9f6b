use Rattle.std.proofs.Common.{◌≡◌, vec_len, arith}
use Rattle.std.proofs.lemmas.Grind.{common_steps}
use Rattle.wb_session.proofs.Runs.{playing-begins, playing-answered, playing-stopped}
use Rattle.wb_session.proofs.course.play.Goals as goal

pub loop-place-init : goal.loop-place-init
loop-place-init c =
    let none : vec_len c.args.lines ≡ 0 = grind (arith, common_steps) in
    playing-begins _ _ _ _ _ _ c.requires.empty none c.requires.room c.reset-machine.ensures.value

pub returns-in-Err-clause-transcript : goal.returns-in-Err-clause-transcript
returns-in-Err-clause-transcript c =
    (playing-stopped _ _ _ _ _ _ _ _ _ _ _ c.loop-place.invariant c.at.ensures c.in-Err.ensures _ _
    c.from_vec-lines.ensures c.at-in-Err.ensures).0

pub returns-in-Err-clause-machine : goal.returns-in-Err-clause-machine
returns-in-Err-clause-machine c =
    (playing-stopped _ _ _ _ _ _ _ _ _ _ _ c.loop-place.invariant c.at.ensures c.in-Err.ensures _ _
    c.from_vec-lines.ensures c.at-in-Err.ensures).1

pub loop-place-preserved : goal.loop-place-preserved
loop-place-preserved c =
    let items = rw c.unwrap.ensures at c.push.ensures.items in
    let longer = rw c.unwrap.ensures at c.push.ensures.len in
    rw items
    (playing-answered _ _ _ _ _ _ _ _ _ c.in-Ok.line _ _ _ c.loop-place.invariant c.at.ensures c.in-Ok.ensures
    longer c.push.ensures.capacity)
