use Rattle.std.proofs.Common.{sym, ◌∙◌, arith}
use Rattle.wb_query.proofs.Answered.{satisfying}
use Rattle.wb_query.proofs.asking.ask.Goals as goal

pub unreachable-requires : goal.unreachable-requires
unreachable-requires g c =
    let is = c.in-Err-Full.ensures.full c.in-Err-Full.field-0-is in
    let over = is.over in
    let light = c.requires.light is.number is.is in
    omega (arith, over, light)

pub judge_values-requires-clause-right : goal.judge_values-requires-clause-right
judge_values-requires-clause-right g c s =
    satisfying c.in-Ok.blasted.formula (g.O.Oracle.limit_of c.args.oracle.now) c.in_ok-values.field-0 c.in-Sat.values c.in-Sat.is
    (c.in_ok-values.ensures.answer (sym c.sound-sound.ensures ∙ s))
